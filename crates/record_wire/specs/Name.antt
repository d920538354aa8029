-- A name as a value: contracts refer to its labels.
use Rattle.std.specs.Prelude.{List, ℕ}
use Rattle.record_wire.specs.declared.name.Name.{Name}
use Rattle.record_wire.specs.Labels.{labels_in}

abbrev pub labels_of : Name → List (List ℕ)
labels_of name = labels_in name.octets.items
