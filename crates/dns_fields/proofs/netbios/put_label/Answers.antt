-- Each turn puts one byte more.
use Rattle.packet_fields.proofs.Printing.{one_more}
use Rattle.wirebase.proofs.Sinks.{put_both}
use Rattle.record_wire.specs.NameText.{character}
use Rattle.dns_fields.proofs.netbios.put_label.Goals as goal

pub loop-byte-preserved : goal.loop-byte-preserved
loop-byte-preserved g c =
    rw (one_more character c.args.label.now c.loop-byte.byte-index 0 c.loop-byte-test.true)
    (put_both _ _ _ _ _ _ c.loop-byte.invariant c.in_ok-put_character.ensures.calls)
