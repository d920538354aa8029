-- Each turn puts one byte more.
use Rattle.std.proofs.Common.{[], ◌∷◌}
use Rattle.packet_fields.proofs.Printing.{one_more}
use Rattle.dhcp_fields.specs.Texts.{key_byte}
use Rattle.wirebase.proofs.Sinks.{put_both}
use Rattle.dhcp_fields.proofs.texts.put_key_bytes.Goals as goal

pub loop-octet-preserved : goal.loop-octet-preserved
loop-octet-preserved g c =
    rw (one_more (λ b. key_byte b ∷ []) c.args.octets.now c.loop-octet.octet-index 0 c.loop-octet-test.true)
    (put_both _ _ _ _ _ _ c.loop-octet.invariant (rw c.key_byte.ensures.value at c.in_ok-put.ensures.calls))
