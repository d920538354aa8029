-- The part of a name at the front of a text: where it stops, and that there is at most one.
use Rattle.dns_wire.proofs.Words.{◌≡◌, ◌-◌, [], ◌∷◌, ◌++◌, ◌∙◌, AllByRecursion, IsFront, IsLabel, IsMark, IsPart}
use Rattle.dns_wire.proofs.Words.{IsSplit, List, Stop, ℕ, ap, append_assoc, arith, drop, drop_at, ends, flat_map}
use Rattle.dns_wire.proofs.Words.{front_of, goes_on, length, length-append, pointer, refl, stop, subst, sym, take}
use Rattle.dns_wire.proofs.Words.{take_at, whole, written}
use Rattle.std.proofs.lemmas.List.{flat_map_more}
use Rattle.dns_wire.proofs.DnsNameTurns.{Whole-front, Points-front, stop-front}
use Rattle.dns_wire.proofs.DnsNameParts.{part_one}

-- ---- label by label

-- what is left of a text after whole labels at its front
abbrev pub IsLeft : List ℕ → List ℕ → Type 0
IsLeft text left = (labels : List (List ℕ)) × (front : IsFront text labels) × (front.rest ≡ left)

each_more : (labels : List (List ℕ)) (bytes : List ℕ) → AllByRecursion IsLabel labels → IsLabel bytes
    → AllByRecursion IsLabel (labels ++ bytes ∷ [])
each_more [] bytes each one = (one, tt)
each_more (l ∷ ls) bytes each one = (each.0, each_more ls bytes each.1 one)

pub left_label : (text left bytes rest : List ℕ) → IsLeft text left → whole bytes rest ≡ front_of left
    → IsLeft text rest
left_label text left bytes rest (labels, front, is) e =
    let w = Whole-front left bytes rest (sym e) in (
      labels ++ bytes ∷ [],
      record {
        rest = rest;
        each = each_more labels bytes front.each (w.some, w.few);
        whole = front.whole
            ∙ (ap (λ t. flat_map written labels ++ t) (is ∙ w.is)
            ∙ (sym (append_assoc (flat_map written labels) (written bytes) rest)
            ∙ ap (λ t. t ++ rest) (flat_map_more written [] labels bytes)));
      },
      refl,
    )

split_left : (text left mark rest : List ℕ) (st : Stop) → IsLeft text left → IsMark mark st → left ≡ mark ++ rest
    → (name after : List ℕ) → after ≡ rest → name ≡ take (length text - length after) text → IsSplit text name after
split_left text left mark rest st (labels, front, is) m e name after second first =
    let part = flat_map written labels ++ mark in
    let at : text ≡ part ++ rest =
    front.whole ∙ (ap (λ t. flat_map written labels ++ t) (is ∙ e)
    ∙ sym (append_assoc (flat_map written labels) mark rest)) in
    let long : length part ≡ length text - length after =
    omega (arith, ap length at, ap length second, length-append part rest) in
    let same : name ≡ part =
    first ∙ (ap (λ t. take (length text - length after) t) at
    ∙ take_at part rest (length text - length after) long) in
    record {
      name_is = record {
        labels = labels;
        stop = st;
        mark = mark;
        each = front.each;
        stops = m;
        whole = same;
      };
      whole = at ∙ (ap (λ t. part ++ t) (sym second) ∙ ap (λ t. t ++ after) (sym same));
    }

pub split_pointer : (text left : List ℕ) (p : ℕ) → IsLeft text left → pointer p ≡ front_of left
    → (name after : List ℕ) → after ≡ drop 2 left → name ≡ take (length text - length after) text
    → IsSplit text name after
split_pointer text left p before e name after second first =
    let at = Points-front left p (sym e) in
    split_left text left (at.first ∷ at.second ∷ []) at.rest (goes_on p) before
    (at.first, at.second, refl, at.high, at.low) at.is name after (second ∙ ap (λ t. drop 2 t) at.is) first

pub split_end : (text left : List ℕ) → IsLeft text left → stop ≡ front_of left → (name after : List ℕ)
    → after ≡ drop 1 left → name ≡ take (length text - length after) text → IsSplit text name after
split_end text left before e name after second first =
    let at = stop-front left (sym e) in
    split_left text left (0 ∷ []) at.0 ends before refl at.1 name after (second ∙ ap (λ t. drop 1 t) at.1) first

-- ---- at most one

pub split_part : (text name rest : List ℕ) (s : IsSplit text name rest)
    → IsPart text s.name_is.labels s.name_is.stop
split_part text name rest s =
    let p = s.name_is in
    record {
      mark = p.mark;
      rest = rest;
      each = p.each;
      stops = p.stops;
      whole = s.whole ∙ (ap (λ t. t ++ rest) p.whole ∙ append_assoc (flat_map written p.labels) p.mark rest);
    }

same_mark_len : (st : Stop) (mark other : List ℕ) → IsMark mark st → IsMark other st → length mark ≡ length other
same_mark_len ends mark other h k = ap length h ∙ sym (ap length k)
same_mark_len (goes_on p) mark other h k = ap length h.2 ∙ sym (ap length k.2)

pub split_one : (text name other after behind : List ℕ) → IsSplit text name after → IsSplit text other behind
    → (name ≡ other) × (after ≡ behind)
split_one text name other after behind s r =
    let p = s.name_is in
    let q = r.name_is in
    let one = part_one p.labels q.labels text p.stop q.stop (split_part text name after s)
    (split_part text other behind r) in
    let marks = same_mark_len q.stop p.mark q.mark (subst (λ st. IsMark p.mark st) one.1 p.stops) q.stops in
    let firsts : length (flat_map written p.labels) ≡ length (flat_map written q.labels) =
    ap (λ ls. length (flat_map written ls)) one.0 in
    let long : length name ≡ length other =
    omega (
      arith,
      marks,
      firsts,
      ap length p.whole,
      ap length q.whole,
      length-append (flat_map written p.labels) p.mark,
      length-append (flat_map written q.labels) q.mark,
    ) in (
      sym (take_at name after (length name) refl)
          ∙ (ap (λ t. take (length name) t) (sym s.whole ∙ r.whole) ∙ take_at other behind (length name) (sym long)),
      sym (drop_at name after (length name) refl)
          ∙ (ap (λ t. drop (length name) t) (sym s.whole ∙ r.whole) ∙ drop_at other behind (length name) (sym long)),
    )
