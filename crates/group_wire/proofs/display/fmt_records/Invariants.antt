-- What is written, followed by the printed text of the records that are left, is the printed text of all.
use Rattle.std.proofs.Common.{◌≡◌, ◌++◌, List, ℕ}
use Rattle.std.specs.Fmt.{HasWritten, IsPlainFormatter}
use Rattle.group_wire.specs.Display.{records_display}
use Rattle.group_wire.specs.Family.{width}
use Rattle.group_wire.proofs.display.fmt_records.Given as goal

abbrev pub invariant-loop-record : goal.invariant-loop-record
invariant-loop-record g l =
    IsPlainFormatter l.fn.f → (done : List ℕ) × HasWritten g.W.Write.write_str_gives l.fn.f done l.f
    × (done ++ records_display g.A.Address.display (width g.A.Address.family) l.record-iterator
    ≡ records_display g.A.Address.display (width g.A.Address.family) l.fn.records)
