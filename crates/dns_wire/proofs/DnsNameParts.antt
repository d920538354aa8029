-- Parts of a text: at most one each, and what the text begins with.
use Rattle.dns_wire.proofs.Words.{◌≡◌, [], ◌∷◌, ◌++◌, ◌∙◌, IsFront, IsLabel, IsMark, IsPart, List, NamePart, Stop, ℕ}
use Rattle.dns_wire.proofs.Words.{ap, append_assoc, ends, flat_map, front_of, goes_on, length, pointer, refl, stop}
use Rattle.dns_wire.proofs.Words.{subst, sym, whole, written}
use Rattle.dns_wire.proofs.DnsNameTurns.{front-whole, front-pointer, whole_parts}

-- the front of a text that begins with a mark
abbrev pub front_at : Stop → NamePart
front_at ends = stop
front_at (goes_on p) = pointer p

pub mark_front : (st : Stop) (mark rest : List ℕ) → IsMark mark st → front_of (mark ++ rest) ≡ front_at st
mark_front ends mark rest m = rw m refl
mark_front (goes_on p) mark rest m = rw (m.2, m.4) (front-pointer m.0 m.1 rest m.3)

front_at_one : (st other : Stop) → front_at st ≡ front_at other → st ≡ other
front_at_one ends ends e = refl
front_at_one ends (goes_on q) e = cc
front_at_one (goes_on p) ends e = cc
front_at_one (goes_on p) (goes_on q) e = let k : p ≡ q = cc in ap goes_on k

pub front_at_other : (st : Stop) (b r : List ℕ) → front_at st ≡ whole b r → ⊥
front_at_other ends b r e = cc
front_at_other (goes_on p) b r e = cc

-- a part with no label
pub part_mark : (text : List ℕ) (st : Stop) → IsPart text [] st → front_of text ≡ front_at st
part_mark text st h = ap front_of h.whole ∙ mark_front st h.mark h.rest h.stops

-- a part, after its first label
pub record AfterLabel (text bytes : List ℕ) (ls : List (List ℕ)) (st : Stop) : Type 0 where
  pub rest : List ℕ
  pub one : IsLabel bytes
  pub is : text ≡ length bytes ∷ (bytes ++ rest)
  pub part : IsPart rest ls st

unfoldable pub after_label : (text bytes : List ℕ) (ls : List (List ℕ)) (st : Stop) → IsPart text (bytes ∷ ls) st
    → AfterLabel text bytes ls st
after_label text bytes ls st h = record {
  rest = flat_map written ls ++ (h.mark ++ h.rest);
  one = h.each.0;
  is = h.whole ∙ append_assoc (written bytes) (flat_map written ls) (h.mark ++ h.rest);
  part = record { mark = h.mark; rest = h.rest; each = h.each.1; stops = h.stops; whole = refl };
}

unfoldable pub part_cons : (bytes rest : List ℕ) (ls : List (List ℕ)) (st : Stop) → IsLabel bytes → IsPart rest ls st
    → IsPart (length bytes ∷ (bytes ++ rest)) (bytes ∷ ls) st
part_cons bytes rest ls st one h = record {
  mark = h.mark;
  rest = h.rest;
  each = (one, h.each);
  stops = h.stops;
  whole = ap (λ r. length bytes ∷ (bytes ++ r)) h.whole ∙ sym
      (append_assoc (written bytes) (flat_map written ls) (h.mark ++ h.rest));
}

pub label_front : (text bytes rest : List ℕ) → IsLabel bytes → text ≡ length bytes ∷ (bytes ++ rest)
    → front_of text ≡ whole bytes rest
label_front text bytes rest one e = ap front_of e ∙ front-whole bytes rest one.0 one.1

-- a text has one part at most
pub part_one : (labels others : List (List ℕ)) (text : List ℕ) (st other : Stop) → IsPart text labels st
    → IsPart text others other → (labels ≡ others) × (st ≡ other)
part_one [] [] text st other h k = (refl, front_at_one st other (sym (part_mark text st h) ∙ part_mark text other k))
part_one [] (o ∷ os) text st other h k =
    let b = after_label text o os other k in
    absurd (front_at_other st o b.rest (sym (part_mark text st h) ∙ label_front text o b.rest b.one b.is))
part_one (l ∷ ls) [] text st other h k =
    let a = after_label text l ls st h in
    absurd (front_at_other other l a.rest (sym (part_mark text other k) ∙ label_front text l a.rest a.one a.is))
part_one (l ∷ ls) (o ∷ os) text st other h k =
    let a = after_label text l ls st h in
    let b = after_label text o os other k in
    let e = whole_parts _ _ _ _ (sym (label_front text l a.rest a.one a.is) ∙ label_front text o b.rest b.one b.is) in
    let more = part_one ls os b.rest st other (subst (λ r. IsPart r ls st) e.1 a.part) b.part in
    (ap (λ x. x ∷ ls) e.0 ∙ ap (λ xs. o ∷ xs) more.0, more.1)

-- whole labels at the front, after the first
pub after_first_label : (text bytes : List ℕ) (ls : List (List ℕ)) → IsFront text (bytes ∷ ls)
    → (rest : List ℕ) × IsLabel bytes × (text ≡ length bytes ∷ (bytes ++ rest)) × IsFront rest ls
after_first_label text bytes ls h = (
  flat_map written ls ++ h.rest,
  h.each.0,
  h.whole ∙ append_assoc (written bytes) (flat_map written ls) h.rest,
  record { rest = h.rest; each = h.each.1; whole = refl },
)

-- a part of a front of a text is a part of the text
pub part_longer : (text more : List ℕ) (labels : List (List ℕ)) (st : Stop) → IsPart text labels st
    → IsPart (text ++ more) labels st
part_longer text more labels st h = record {
  mark = h.mark;
  rest = h.rest ++ more;
  each = h.each;
  stops = h.stops;
  whole = ap (λ t. t ++ more) h.whole
      ∙ (append_assoc (flat_map written labels) (h.mark ++ h.rest) more
      ∙ ap (λ t. flat_map written labels ++ t) (append_assoc h.mark h.rest more));
}
