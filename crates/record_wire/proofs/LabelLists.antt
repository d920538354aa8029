-- The labels in octets.
use Rattle.record_wire.proofs.Words.{◌≡◌, ◌+◌, ◌<◌, ◌≤◌, ◌&&◌, [], ◌∷◌, ◌++◌, ◌∙◌, AllByRecursion, AreOfName, Bool}
use Rattle.record_wire.proofs.Words.{IsLabel, List, None, Option, Some, ℕ, ap, append-nil, append_assoc, arith, cond}
use Rattle.record_wire.proofs.Words.{drop, false, first_label, flat_map-append, labels_in, le-leb, leb, leb-true}
use Rattle.record_wire.proofs.Words.{length, length-append, length-take-le, refl, suc, sym, take, take-append-drop}
use Rattle.record_wire.proofs.Words.{take-append_seam, true, wire, written, written_all, zero}
use Rattle.record_wire.specs.Labels.{by_first, labels_up_to}
use Rattle.record_wire.proofs.Characters.{both}

-- the label at the start
pub record IsFirst (octets label rest : List ℕ) : Type 0 where
  pub one : IsLabel label
  pub whole : octets ≡ written label ++ rest

-- a label and what follows it
abbrev label_then : List ℕ → List ℕ → Option (List ℕ × List ℕ)
label_then label rest = Some (label, rest)

same_pair : (p q : List ℕ × List ℕ) → Some p ≡ Some q → p ≡ q
same_pair p q e = cc

at_test : (b : Bool) (x y a c : List ℕ) → cond b (label_then x y) None ≡ label_then a c → (b ≡ true) × (x ≡ a) × (y ≡ c)
at_test true x y a c e =
    let p = same_pair (x, y) (a, c) e in
    (refl, ap (λ (q : List ℕ × List ℕ). q.0) p, ap (λ (q : List ℕ × List ℕ). q.1) p)
at_test false x y a c e = cc

pub first_is : (octets label rest : List ℕ) → first_label octets ≡ Some (label, rest) → IsFirst octets label rest
first_is [] label rest e = cc
first_is (n ∷ more) label rest e =
    let t = at_test (leb 1 n && leb n 63 && leb n (length more)) (take n more) (drop n more) label rest e in
    let h = both _ _ t.0 in
    let k = both _ _ h.0 in
    let low = leb-true 1 n k.0 in
    let high = leb-true n 63 k.1 in
    let len : length label ≡ n = ap length (sym t.1) ∙ length-take-le n more (leb-true n (length more) h.1) in
    let parts : more ≡ label ++ rest =
    sym (take-append-drop n more) ∙ (ap (λ a. a ++ drop n more) t.1 ∙ ap (λ a. label ++ a) t.2) in
    record {
      one = (omega (arith, len, low), omega (arith, len, high));
      whole = ap (λ (m : ℕ). m ∷ more) (sym len) ∙ ap (λ m. length label ∷ m) parts;
    }

test_true : {A : Type 0} (a b c : Bool) (x y : A) → a ≡ true → b ≡ true → c ≡ true → cond (a && b && c) x y ≡ x
test_true a b c x y e f g = rw (e, f, g) refl

pub drop_seam : (xs ys : List ℕ) → drop (length xs) (xs ++ ys) ≡ ys
drop_seam [] ys = refl
drop_seam (x ∷ xs) ys = drop_seam xs ys

pub first_written : (label rest : List ℕ) → IsLabel label → first_label (written label ++ rest) ≡ Some (label, rest)
first_written label rest one =
    test_true (leb 1 (length label)) (leb (length label) 63) (leb (length label) (length (label ++ rest))) _ None
    (le-leb _ _ one.0) (le-leb _ _ one.1) (le-leb _ _ (omega (arith, length-append label rest)))
    ∙ (ap (λ (l : List ℕ). label_then l (drop (length label) (label ++ rest))) (take-append_seam label rest)
    ∙ ap (λ (l : List ℕ). label_then label l) (drop_seam label rest))

pub first_shorter_label : (octets label rest : List ℕ) → first_label octets ≡ Some (label, rest)
    → length rest < length octets
first_shorter_label octets label rest e =
    let f = first_is octets label rest e in
    omega (arith, ap length f.whole, length-append label rest)

-- ---- all labels

-- how the start was computed
data Front (octets : List ℕ) : Type 0 where
  none : first_label octets ≡ None → Front octets
  one : (label rest : List ℕ) → first_label octets ≡ Some (label, rest) → Front octets

front_by : (octets : List ℕ) (f : Option (List ℕ × List ℕ)) → first_label octets ≡ f → Front octets
front_by octets None e = none e
front_by octets (Some (label, rest)) e = one label rest e

turn-some : (most : ℕ) (octets label rest : List ℕ) → first_label octets ≡ Some (label, rest)
    → labels_up_to (suc most) octets ≡ label ∷ labels_up_to most rest
unfolding labels_up_to
turn-some most octets label rest e = ap (λ f. by_first f (labels_up_to most)) e

turn-none : (most : ℕ) (octets : List ℕ) → first_label octets ≡ None → labels_up_to (suc most) octets ≡ []
unfolding labels_up_to
turn-none most octets e = ap (λ f. by_first f (labels_up_to most)) e

turn-zero : (octets : List ℕ) → labels_up_to zero octets ≡ []
unfolding labels_up_to
turn-zero octets = refl

no_octets : (octets : List ℕ) → length octets ≤ 0 → first_label octets ≡ None
no_octets [] h = refl
no_octets (x ∷ octets) h = absurd (omega arith)

-- as many steps as there are octets are enough
enough : (most more : ℕ) (octets : List ℕ) → length octets ≤ most → length octets ≤ more
    → labels_up_to most octets ≡ labels_up_to more octets
enough zero zero octets h k = refl
enough zero (suc more) octets h k = turn-zero octets ∙ sym (turn-none more octets (no_octets octets h))
enough (suc most) zero octets h k = turn-none most octets (no_octets octets k) ∙ sym (turn-zero octets)
enough (suc most) (suc more) octets h k =
    elim (front_by octets (first_label octets) refl) [
      | none e ↦ turn-none most octets e ∙ sym (turn-none more octets e)
      | one label rest e ↦
          let less = first_shorter_label octets label rest e in
          let same = enough most more rest (omega (arith, less)) (omega (arith, less)) in
          turn-some most octets label rest e ∙ (ap (λ ls. label ∷ ls) same ∙ sym (turn-some more octets label rest e))
    ]

pub labels-none : (octets : List ℕ) → first_label octets ≡ None → labels_in octets ≡ []
labels-none octets e =
    enough (length octets) (suc (length octets)) octets (omega arith) (omega arith)
    ∙ turn-none (length octets) octets e

pub labels-some : (octets label rest : List ℕ) → first_label octets ≡ Some (label, rest)
    → labels_in octets ≡ label ∷ labels_in rest
labels-some octets label rest e =
    let less = first_shorter_label octets label rest e in
    enough (length octets) (suc (length octets)) octets (omega arith) (omega arith)
    ∙ (turn-some (length octets) octets label rest e
    ∙ ap (λ ls. label ∷ ls) (enough (length octets) (length rest) rest (omega (arith, less)) (omega arith)))

pub in_nothing : labels_in [] ≡ []
in_nothing = labels-none [] refl

-- the labels that were written are those in the octets, also where byte 0 follows them
pub labels-written : (labels : List (List ℕ)) → AllByRecursion IsLabel labels → labels_in (written_all labels) ≡ labels
labels-written [] each = in_nothing
labels-written (label ∷ labels) each =
    labels-some (written label ++ written_all labels) label (written_all labels)
    (first_written label (written_all labels) each.0)
    ∙ ap (λ ls. label ∷ ls) (labels-written labels each.1)

pub labels-wire : (labels : List (List ℕ)) → AllByRecursion IsLabel labels → labels_in (wire labels) ≡ labels
labels-wire [] each = labels-none (0 ∷ []) refl
labels-wire (label ∷ labels) each =
    labels-some (written_all (label ∷ labels) ++ 0 ∷ []) label (wire labels)
    (ap first_label (append_assoc (written label) (written_all labels) (0 ∷ []))
    ∙ first_written label (wire labels) each.0)
    ∙ ap (λ ls. label ∷ ls) (labels-wire labels each.1)

each_up_to : (most : ℕ) (octets : List ℕ) → AllByRecursion IsLabel (labels_up_to most octets)
each_up_to zero octets = rw (turn-zero octets) tt
each_up_to (suc most) octets =
    elim (front_by octets (first_label octets) refl) [
      | none e ↦ rw (turn-none most octets e) tt
      | one label rest e ↦ rw (turn-some most octets label rest e)
          ((first_is octets label rest e).one, each_up_to most rest)
    ]

pub each_in : (octets : List ℕ) → AllByRecursion IsLabel (labels_in octets)
each_in octets = each_up_to (length octets) octets

-- byte 0 ends the labels
pub ended : (octets : List ℕ) → written_all (labels_in octets) ≡ octets
    → labels_in (octets ++ 0 ∷ []) ≡ labels_in octets
ended octets e =
    ap (λ (o : List ℕ). labels_in (o ++ 0 ∷ [])) (sym e) ∙ labels-wire (labels_in octets) (each_in octets)

-- the octets of a name, without and with byte 0
pub whole_wire : (octets : List ℕ) → written_all (labels_in octets) ≡ octets
    → wire (labels_in (octets ++ 0 ∷ [])) ≡ octets ++ 0 ∷ []
whole_wire octets e =
    let same : labels_in (octets ++ 0 ∷ []) ≡ labels_in octets = ended octets e in
    ap wire same ∙ ap (λ (o : List ℕ). o ++ 0 ∷ []) e

-- labels that were written, and one more
pub written_more : (labels : List (List ℕ)) (label : List ℕ) → written_all (labels ++ label ∷ [])
    ≡ written_all labels ++ written label
written_more labels label =
    flat_map-append written labels (label ∷ [])
    ∙ ap (λ (o : List ℕ). written_all labels ++ o) (append-nil (written label))

pub each_more : (labels : List (List ℕ)) (label : List ℕ) → AllByRecursion IsLabel labels → IsLabel label
    → AllByRecursion IsLabel (labels ++ label ∷ [])
each_more [] label each fits = (fits, tt)
each_more (l ∷ labels) label each fits = (each.0, each_more labels label each.1 fits)

-- of the labels of a name, what is before the last ones
pub room_before : (done : List (List ℕ)) (label : List ℕ) (more : List (List ℕ))
    → length (wire (done ++ label ∷ more)) ≤ 255
    → length (written_all done) + length (written label) + 1 ≤ 255
room_before done label more h =
    let a : written_all (done ++ label ∷ more) ≡ written_all done ++ (written label ++ written_all more) =
    flat_map-append written done (label ∷ more) in
    omega (
      arith,
      h,
      ap length a,
      length-append (written_all (done ++ label ∷ more)) (0 ∷ []),
      length-append (written_all done) (written label ++ written_all more),
      length-append (written label) (written_all more),
    )

-- octets that were written are those of the labels in them
pub in_written : (octets : List ℕ) (labels : List (List ℕ)) → AllByRecursion IsLabel labels
    → octets ≡ written_all labels → labels_in octets ≡ labels
in_written octets labels each e = ap labels_in e ∙ labels-written labels each

pub written_in : (octets : List ℕ) (labels : List (List ℕ)) → AllByRecursion IsLabel labels
    → octets ≡ written_all labels → written_all (labels_in octets) ≡ octets
written_in octets labels each e = ap written_all (in_written octets labels each e) ∙ sym e

pub room_for_end : (octets : List ℕ) (labels : List (List ℕ)) → octets ≡ written_all labels
    → length (wire labels) ≤ 255 → length octets < 255
room_for_end octets labels e h =
    omega (arith, h, ap length e, length-append (written_all labels) (0 ∷ []))

pub name_of : (octets : List ℕ) (labels : List (List ℕ)) → AllByRecursion IsLabel labels
    → octets ≡ written_all labels → length octets < 255 → AreOfName labels
name_of octets labels each e h = record {
  each = each;
  fits = omega (arith, h, ap length e, length-append (written_all labels) (0 ∷ []));
}

-- the octets of a name have its labels, and are those of the labels in them
pub in_wire : (octets : List ℕ) (labels : List (List ℕ)) → AllByRecursion IsLabel labels → octets ≡ wire labels
    → labels_in octets ≡ labels
in_wire octets labels each e = ap labels_in e ∙ labels-wire labels each

pub wire_in : (octets : List ℕ) (labels : List (List ℕ)) → AllByRecursion IsLabel labels → octets ≡ wire labels
    → wire (labels_in octets) ≡ octets
wire_in octets labels each e = ap wire (in_wire octets labels each e) ∙ sym e
