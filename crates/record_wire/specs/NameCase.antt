-- Names without regard to the case of their letters (RFC 1035 section 2.3.3, RFC 4343 section 3): those of ASCII alone.
use Rattle.std.specs.Prelude.{List, ℕ, map}
use Rattle.std.specs.Char.{to_ascii_lowercase}

abbrev pub lower_label : List ℕ → List ℕ
lower_label label = map to_ascii_lowercase label

abbrev pub lower_labels : List (List ℕ) → List (List ℕ)
lower_labels labels = map lower_label labels
