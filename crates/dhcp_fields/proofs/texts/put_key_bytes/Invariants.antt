-- The bytes so far.
use Rattle.std.proofs.Common.{[], ◌∷◌, take}
use Rattle.std.specs.Fmt.{WritesInCalls}
use Rattle.std.specs.Prelude.{flat_map}
use Rattle.dhcp_fields.specs.Texts.{key_byte}
use Rattle.dhcp_fields.proofs.texts.put_key_bytes.Given as goal

abbrev pub invariant-loop-octet : goal.invariant-loop-octet
invariant-loop-octet g l =
    WritesInCalls g.S.Sink.took l.initial.output (flat_map (λ b. key_byte b ∷ []) (take l.octet-index l.octets))
    l.output
