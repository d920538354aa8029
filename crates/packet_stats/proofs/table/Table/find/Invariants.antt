-- None of the first rows is of the subject.
use Rattle.std.proofs.Common.{map, take}
use Rattle.packet_stats.specs.Row.{row_of}
use Rattle.packet_stats.specs.Subject.{subject_of}
use Rattle.packet_stats.specs.Table.{IsUnknown}
use Rattle.packet_stats.proofs.table.Table.find.Given as goal

abbrev pub invariant-loop-place : goal.invariant-loop-place
invariant-loop-place l = IsUnknown (subject_of l.subject) (map row_of (take l.place l.self.rows.items))
