use Rattle.std.proofs.Common.{take}
use Rattle.std.specs.Fmt.{HasWritten, IsPlainFormatter}
use Rattle.icmp6_wire.specs.Mld.{values_of}
use Rattle.icmp6_wire.specs.MldDisplay.{records_display}
use Rattle.icmp6_wire.proofs.mld.display.fmt_records.Given as goal

abbrev pub invariant-loop-record : goal.invariant-loop-record
invariant-loop-record g l =
    IsPlainFormatter l.fn.f → HasWritten g.W.Write.write_str_gives l.fn.f
    (records_display (values_of (take l.record-index l.records))) l.f
