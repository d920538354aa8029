-- Each turn puts one octet more.
use Rattle.packet_fields.proofs.Printing.{one_more}
use Rattle.packet_fields.specs.private.Colons.{behind_colon}
use Rattle.wirebase.proofs.Sinks.{put_both}
use Rattle.packet_fields.proofs.value.put_behind_colons.Goals as goal

pub loop-octet-preserved : goal.loop-octet-preserved
loop-octet-preserved g c =
    rw (one_more behind_colon c.args.octets.now c.loop-octet.octet-index 0 c.loop-octet-test.true)
    (put_both _ _ _ _ _ _ c.loop-octet.invariant c.in_ok-put_behind_colon.ensures.calls)
