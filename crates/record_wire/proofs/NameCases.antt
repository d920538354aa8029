-- The octets of a name and its labels, in lower case.
use Rattle.record_wire.proofs.Words.{◌≡◌, ◌<◌, [], ◌∷◌, ◌++◌, ◌∙◌, AllByRecursion, IsLabel, List, ℕ, ap, arith}
use Rattle.record_wire.proofs.Words.{labels_in, length, map, refl, sym, wire, written, written_all}
use Rattle.std.proofs.lemmas.List.{map-append, length-map}
use Rattle.std.specs.Char.{to_ascii_lowercase}
use Rattle.record_wire.specs.NameCase.{lower_label, lower_labels}
use Rattle.record_wire.proofs.LabelLists.{labels-wire, each_in}

lower_small : (n : ℕ) → n < 65 → to_ascii_lowercase n ≡ n
lower_small n h = grind arith

lower_written : (label : List ℕ) → IsLabel label → map to_ascii_lowercase (written label) ≡ written (lower_label label)
lower_written label one =
    ap (λ (n : ℕ). n ∷ lower_label label)
    (lower_small (length label) (omega (arith, one.1)) ∙ sym (length-map label to_ascii_lowercase))

lower_all : (labels : List (List ℕ)) → AllByRecursion IsLabel labels
    → map to_ascii_lowercase (written_all labels) ≡ written_all (lower_labels labels)
lower_all [] each = refl
lower_all (label ∷ labels) each =
    map-append to_ascii_lowercase (written label) (written_all labels)
    ∙ (ap (λ (l : List ℕ). l ++ map to_ascii_lowercase (written_all labels)) (lower_written label each.0)
    ∙ ap (λ (l : List ℕ). written (lower_label label) ++ l) (lower_all labels each.1))

lower_wire : (labels : List (List ℕ)) → AllByRecursion IsLabel labels
    → map to_ascii_lowercase (wire labels) ≡ wire (lower_labels labels)
lower_wire labels each =
    map-append to_ascii_lowercase (written_all labels) (0 ∷ [])
    ∙ ap (λ (l : List ℕ). l ++ 0 ∷ []) (lower_all labels each)

each_lower : (labels : List (List ℕ)) → AllByRecursion IsLabel labels → AllByRecursion IsLabel (lower_labels labels)
each_lower [] each = tt
each_lower (label ∷ labels) each =
    let len = length-map label to_ascii_lowercase in
    ((omega (arith, each.0.0, len), omega (arith, each.0.1, len)), each_lower labels each.1)

lower_octets : (octets : List ℕ) → wire (labels_in octets) ≡ octets
    → map to_ascii_lowercase octets ≡ wire (lower_labels (labels_in octets))
lower_octets octets whole =
    ap (λ (o : List ℕ). map to_ascii_lowercase o) (sym whole) ∙ lower_wire (labels_in octets) (each_in octets)

-- two names have equal octets in lower case exactly where they have equal labels in lower case
pub same_octets : (a b : List ℕ) → wire (labels_in a) ≡ a → wire (labels_in b) ≡ b
    → map to_ascii_lowercase a ≡ map to_ascii_lowercase b
    → lower_labels (labels_in a) ≡ lower_labels (labels_in b)
same_octets a b whole other e =
    let wires = sym (lower_octets a whole) ∙ (e ∙ lower_octets b other) in
    sym (labels-wire (lower_labels (labels_in a)) (each_lower (labels_in a) (each_in a)))
    ∙ (ap labels_in wires ∙ labels-wire (lower_labels (labels_in b)) (each_lower (labels_in b) (each_in b)))

pub same_labels : (a b : List ℕ) → wire (labels_in a) ≡ a → wire (labels_in b) ≡ b
    → lower_labels (labels_in a) ≡ lower_labels (labels_in b)
    → map to_ascii_lowercase a ≡ map to_ascii_lowercase b
same_labels a b whole other e = lower_octets a whole ∙ (ap wire e ∙ sym (lower_octets b other))
