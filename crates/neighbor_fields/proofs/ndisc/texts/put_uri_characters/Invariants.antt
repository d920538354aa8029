-- The characters so far.
use Rattle.std.proofs.Common.{take}
use Rattle.std.specs.Fmt.{WritesInCalls}
use Rattle.std.specs.Prelude.{flat_map}
use Rattle.neighbor_fields.specs.NdiscTexts.{uri_character}
use Rattle.neighbor_fields.proofs.ndisc.texts.put_uri_characters.Given as goal

abbrev pub invariant-loop-octet : goal.invariant-loop-octet
invariant-loop-octet g l =
    WritesInCalls g.S.Sink.took l.initial.output (flat_map uri_character (take l.octet-index l.octets)) l.output
