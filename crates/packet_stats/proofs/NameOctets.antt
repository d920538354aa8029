-- Names and their octets.
use Rattle.std.proofs.Common.{◌≡◌, ◌++◌, ◌<◌, ◌∙◌, [], ◌∷◌, List, ap, arith, length, map, refl, subst, sym, ℕ}
use Rattle.std.proofs.lemmas.List.{length-map, map-append}
use Rattle.std.specs.Char.{to_ascii_lowercase}
use Rattle.std.specs.List.{AllByRecursion}
use Rattle.dns_wire.specs.DnsName.{IsLabel, written}
use Rattle.record_wire.specs.Labels.{AreOfName, labels_in, wire, written_all}
use Rattle.record_wire.specs.Name.{labels_of}
use Rattle.record_wire.specs.NameCase.{lower_label, lower_labels}
use Rattle.record_wire.specs.Names.{Names}
use Rattle.record_wire.specs.declared.name.Name.{Name}
use Rattle.record_wire.proofs.NameReads.{own_name}

-- ---- names of the same octets have the same labels

pub same_labels : (a b : Name) → wire (labels_of a) ≡ wire (labels_of b) → labels_of a ≡ labels_of b
same_labels a b same = ap labels_in (sym a.whole ∙ same ∙ b.whole)

-- ---- lower case

lower_small : (n : ℕ) → n < 65 → to_ascii_lowercase n ≡ n
lower_small n h = grind arith

lower_written : (label : List ℕ) → IsLabel label → map to_ascii_lowercase (written label) ≡ written (lower_label label)
lower_written label one =
    ap (λ (n : ℕ). n ∷ lower_label label)
    (lower_small (length label) (omega (arith, one.1)) ∙ sym (length-map label to_ascii_lowercase))

lower_all : (labels : List (List ℕ)) → AllByRecursion IsLabel labels
    → map to_ascii_lowercase (written_all labels) ≡ written_all (lower_labels labels)
lower_all [] each = refl
lower_all (label ∷ labels) each =
    map-append to_ascii_lowercase (written label) (written_all labels)
    ∙ (ap (λ (l : List ℕ). l ++ map to_ascii_lowercase (written_all labels)) (lower_written label each.0)
    ∙ ap (λ (l : List ℕ). written (lower_label label) ++ l) (lower_all labels each.1))

lower_wire : (labels : List (List ℕ)) → AllByRecursion IsLabel labels
    → map to_ascii_lowercase (wire labels) ≡ wire (lower_labels labels)
lower_wire labels each =
    map-append to_ascii_lowercase (written_all labels) (0 ∷ [])
    ∙ ap (λ (l : List ℕ). l ++ 0 ∷ []) (lower_all labels each)

each_lower : (labels : List (List ℕ)) → AllByRecursion IsLabel labels → AllByRecursion IsLabel (lower_labels labels)
each_lower [] each = tt
each_lower (label ∷ labels) each =
    let len = length-map label to_ascii_lowercase in
    ((omega (arith, each.0.0, len), omega (arith, each.0.1, len)), each_lower labels each.1)

-- the labels of a name in lower case are those of a name
are_lower : (labels : List (List ℕ)) → AreOfName labels → AreOfName (lower_labels labels)
are_lower labels are = record {
  each = each_lower labels are.each;
  fits =
      omega (
        arith,
        are.fits,
        length-map (wire labels) to_ascii_lowercase,
        ap length (lower_wire labels are.each),
      );
}

-- the octets of a name in lower case are read as that name, in any message
pub reads_lower : (message octets : List ℕ) (labels : List (List ℕ)) → AreOfName labels
    → octets ≡ map to_ascii_lowercase (wire labels) → Names message octets (lower_labels labels)
reads_lower message octets labels are is =
    subst (λ l. Names message l (lower_labels labels)) (sym (is ∙ lower_wire labels are.each))
    (own_name message (lower_labels labels) (are_lower labels are))
