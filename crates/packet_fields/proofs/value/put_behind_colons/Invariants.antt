-- The octets so far, each after a colon.
use Rattle.std.proofs.Common.{take}
use Rattle.std.specs.Fmt.{WritesInCalls}
use Rattle.std.specs.Prelude.{flat_map}
use Rattle.packet_fields.specs.private.Colons.{behind_colon}
use Rattle.packet_fields.proofs.value.put_behind_colons.Given as goal

abbrev pub invariant-loop-octet : goal.invariant-loop-octet
invariant-loop-octet g l =
    WritesInCalls g.S.Sink.took l.initial.output (flat_map behind_colon (take l.octet-index l.octets)) l.output
