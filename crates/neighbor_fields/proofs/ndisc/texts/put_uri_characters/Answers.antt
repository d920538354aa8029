-- Each turn puts one character more.
use Rattle.packet_fields.proofs.Printing.{one_more}
use Rattle.neighbor_fields.specs.NdiscTexts.{uri_character}
use Rattle.wirebase.proofs.Sinks.{put_both}
use Rattle.neighbor_fields.proofs.ndisc.texts.put_uri_characters.Goals as goal

pub loop-octet-preserved : goal.loop-octet-preserved
loop-octet-preserved g c =
    rw (one_more uri_character c.args.octets.now c.loop-octet.octet-index 0 c.loop-octet-test.true)
    (put_both _ _ _ _ _ _ c.loop-octet.invariant c.in_ok-put_uri_character.ensures.calls)
