-- The octets of a whole name (RFC 1035 section 3.1): each label after its length, and then byte 0.
use Rattle.std.specs.Prelude.{◌≤◌, ◌&&◌, [], ◌∷◌, ◌++◌, List, None, Option, Some, ℕ, drop, if◌then◌else◌, length}
use Rattle.std.specs.Prelude.{nat_le, suc, take, zero}
use Rattle.std.specs.List.{AllByRecursion, flat_map}
use Rattle.record_wire.specs.Words.{IsLabel, written}

-- each label after its length
abbrev pub written_all : List (List ℕ) → List ℕ
written_all labels = flat_map written labels

abbrev pub wire : List (List ℕ) → List ℕ
wire labels = written_all labels ++ 0 ∷ []

-- the labels of a name: 1 to 63 bytes each, and 255 octets in all (RFC 1035 section 2.3.4)
pub record AreOfName (labels : List (List ℕ)) : Type 0 where
  pub each : AllByRecursion IsLabel labels
  pub fits : length (wire labels) ≤ 255

-- ---- the labels in octets, as computed

-- the label at the start of octets, and what follows it
abbrev pub first_label : List ℕ → Option (List ℕ × List ℕ)
first_label [] = None
first_label (n ∷ rest) =
    if nat_le 1 n && nat_le n 63 && nat_le n (length rest) then Some (take n rest, drop n rest) else None

abbrev pub by_first : Option (List ℕ × List ℕ) → (List ℕ → List (List ℕ)) → List (List ℕ)
by_first None go = []
by_first (Some (label, rest)) go = label ∷ go rest

-- the labels at the start of octets, this many at most
unfoldable pub labels_up_to : ℕ → List ℕ → List (List ℕ)
labels_up_to zero octets = []
labels_up_to (suc most) octets = by_first (first_label octets) (labels_up_to most)

-- each label takes at least one octet
abbrev pub labels_in : List ℕ → List (List ℕ)
labels_in octets = labels_up_to (length octets) octets
