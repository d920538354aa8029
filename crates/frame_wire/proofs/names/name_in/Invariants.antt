-- No row that was looked at has the number.
use Rattle.frame_wire.proofs.Words.{◌≡◌, drop}
use Rattle.frame_wire.specs.Names.{name_in}
use Rattle.frame_wire.specs.private.NameRows.{names_of}
use Rattle.frame_wire.proofs.names.name_in.Given as goal

abbrev pub invariant-loop-row : goal.invariant-loop-row
invariant-loop-row l = name_in (names_of (drop l.row-index l.rows)) l.number ≡ name_in (names_of l.rows) l.number
