-- The bytes so far.
use Rattle.std.proofs.Common.{flat_map, take}
use Rattle.std.specs.Fmt.{WritesInCalls}
use Rattle.record_wire.specs.NameText.{character}
use Rattle.dns_fields.proofs.netbios.put_label.Given as goal

abbrev pub invariant-loop-byte : goal.invariant-loop-byte
invariant-loop-byte g l =
    WritesInCalls g.S.Sink.took l.initial.output (flat_map character (take l.byte-index l.label)) l.output
