-- No row that was looked at has the number.
use Rattle.std.proofs.Common.{◌≡◌, drop}
use Rattle.packet_fields.specs.Names.{name_in, rows_of}
use Rattle.packet_fields.proofs.names.name_in.Given as goal

abbrev pub invariant-loop-row : goal.invariant-loop-row
invariant-loop-row l = name_in (rows_of (drop l.row-index l.rows)) l.number ≡ name_in (rows_of l.rows) l.number
