-- Where a name of one part is torn.
use Rattle.record_wire.proofs.Words.{◌≡◌, ◌<◌, ◌≤◌, ◌⊎◌, [], ◌∷◌, ◌++◌, ◌∙◌, AllByRecursion, Behind, IsLabel, IsNoPart}
use Rattle.record_wire.proofs.Words.{IsSplit, List, PartRefusal, Points-front, Whole-front, ℕ, ap, append_assoc, arith}
use Rattle.record_wire.proofs.Words.{eqb, eqb-false, flat_map-append, front_of, inl, inr, length, ltb}
use Rattle.record_wire.proofs.Words.{ltb-true, pointer, refl, slice_index_or, stop, subst, sym, torn, whole, written}
use Rattle.record_wire.proofs.Words.{written_all}
use Rattle.std.proofs.lemmas.Bool.{ltb-false}
use Rattle.dns_wire.specs.DnsName.{Stop, ends, goes_on, IsMark}
use Rattle.dns_wire.specs.private.DnsNameAhead.{pointer_at}
use Rattle.dns_wire.proofs.DnsNameTurns.{chosen, stop-front}
use Rattle.record_wire.specs.RecordRefusal.{IsCut}
use Rattle.record_wire.proofs.LabelLists.{written_more, each_more}

-- ---- label by label

pub behind_nothing : (text : List ℕ) → Behind text text
behind_nothing text = record { labels = []; each = tt; is = refl }

pub behind_label : (text left bytes rest : List ℕ) → Behind text left → whole bytes rest ≡ front_of left
    → Behind text rest
behind_label text left bytes rest so e =
    let w = Whole-front left bytes rest (sym e) in
    record {
      labels = so.labels ++ bytes ∷ [];
      each = each_more so.labels bytes so.each (w.some, w.few);
      is = so.is
          ∙ (ap (λ (r : List ℕ). written_all so.labels ++ r) w.is
          ∙ (sym (append_assoc (written_all so.labels) (written bytes) rest)
          ∙ ap (λ (o : List ℕ). o ++ rest) (sym (written_more so.labels bytes))));
    }

-- ---- a mark ends a name

split_mark : (text mark rest : List ℕ) (st : Stop) (so : Behind text (mark ++ rest)) → IsMark mark st
    → IsSplit text (written_all so.labels ++ mark) rest
split_mark text mark rest st so is = record {
  name_is = record { labels = so.labels; stop = st; mark = mark; each = so.each; stops = is; whole = refl };
  whole = so.is ∙ sym (append_assoc (written_all so.labels) mark rest);
}

pub split_pointer : (text left : List ℕ) (target : ℕ) → Behind text left → pointer target ≡ front_of left
    → (name : List ℕ) × (rest : List ℕ) × IsSplit text name rest
split_pointer text left target so e =
    let at = Points-front left target (sym e) in
    let mark = at.first ∷ at.second ∷ [] in
    let there : Behind text (mark ++ at.rest) = subst (Behind text) at.is so in (
      written_all there.labels ++ mark,
      at.rest,
      split_mark text mark at.rest (goes_on target) there (at.first, at.second, refl, at.high, at.low),
    )

pub split_end : (text left : List ℕ) → Behind text left → stop ≡ front_of left
    → (name : List ℕ) × (rest : List ℕ) × IsSplit text name rest
split_end text left so e =
    let at = stop-front left (sym e) in
    let there : Behind text ((0 ∷ []) ++ at.0) = subst (Behind text) at.1 so in
    (written_all there.labels ++ 0 ∷ [], at.0, split_mark text (0 ∷ []) at.0 ends there refl)

-- ---- nothing whole

torn_pointer : (x : ℕ) (xs : List ℕ) → torn ≡ pointer_at x xs → xs ≡ []
torn_pointer x [] e = refl
torn_pointer x (y ∷ ys) e = cc

pub torn_cut : (left : List ℕ) → torn ≡ front_of left
    → (slice_index_or left 0 0 < 64) ⊎ (192 ≤ slice_index_or left 0 0) → IsCut left
torn_cut [] e far = tt
torn_cut (x ∷ xs) e far = elim (chosen (eqb x 0) _ _ torn (sym e)) [
  | inl (f, g) ↦ cc g
  | inr (f, g) ↦ elim (chosen (ltb x 64) _ _ torn g) [
    | inl (h, k) ↦ elim (chosen (ltb (length xs) x) _ _ torn k) [
      | inl (l, m) ↦
          inl (omega (arith, eqb-false x 0 f), omega (arith, ltb-true x 64 h), omega (arith, ltb-true (length xs) x l))
      | inr (l, m) ↦ cc m
    ]
    | inr (h, k) ↦ elim (chosen (ltb x 192) _ _ torn k) [
      | inl (l, m) ↦ elim far [
        | inl less ↦ absurd (omega (arith, less, ltb-false x 64 h))
        | inr more ↦ absurd (omega (arith, more, ltb-true x 192 l))
      ]
      | inr (l, m) ↦ inr (omega (arith, ltb-false x 192 l), torn_pointer x xs (sym m))
    ]
  ]
]

-- what is refused after labels is refused from their start on
each_both : (done labels : List (List ℕ)) → AllByRecursion IsLabel done → AllByRecursion IsLabel labels
    → AllByRecursion IsLabel (done ++ labels)
each_both [] labels each more = more
each_both (d ∷ done) labels each more = (each.0, each_both done labels each.1 more)

behind_both : (text left behind : List ℕ) → Behind text left → Behind left behind → Behind text behind
behind_both text left behind a b = record {
  labels = a.labels ++ b.labels;
  each = each_both a.labels b.labels a.each b.each;
  is = a.is
      ∙ (ap (λ (l : List ℕ). written_all a.labels ++ l) b.is
      ∙ (sym (append_assoc (written_all a.labels) (written_all b.labels) behind)
      ∙ ap (λ (l : List ℕ). l ++ behind) (sym (flat_map-append written a.labels b.labels))));
}

pub no_part_behind : (text left : List ℕ) (refusal : PartRefusal) → Behind text left → IsNoPart left refusal
    → IsNoPart text refusal
no_part_behind text left PartRefusal.Cut so (behind, there, cut) = (behind, behind_both text left behind so there, cut)
no_part_behind text left (PartRefusal.LabelType n) so (rest, there, low, high) =
    (rest, behind_both text left (n ∷ rest) so there, low, high)

pub no_part_cut : (left : List ℕ) → IsCut left → IsNoPart left PartRefusal.Cut
no_part_cut left cut = (left, behind_nothing left, cut)

first_some : (left : List ℕ) → 1 ≤ length left → (rest : List ℕ) × (left ≡ slice_index_or left 0 0 ∷ rest)
first_some [] some = absurd (omega (arith, some))
first_some (x ∷ xs) some = (xs, refl)

pub no_part_type : (left : List ℕ) → 1 ≤ length left → 64 ≤ slice_index_or left 0 0 → slice_index_or left 0 0 < 192
    → IsNoPart left (PartRefusal.LabelType (slice_index_or left 0 0))
no_part_type left some low high =
    let first = first_some left some in
    (first.0, subst (λ (l : List ℕ). Behind left l) first.1 (behind_nothing left), low, high)
