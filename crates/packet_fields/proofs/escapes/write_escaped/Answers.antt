-- Each turn writes the octets that stand as they are, and one more.
use Rattle.std.proofs.lemmas.List.{take-append-drop}
use Rattle.packet_fields.proofs.Printing.{gained}
use Rattle.packet_fields.proofs.Strings.{one_more_octet}
use Rattle.packet_fields.proofs.escapes.write_escaped.Goals as goal

pub loop-rest-preserved : goal.loop-rest-preserved
loop-rest-preserved g c =
    let so_far = c.loop-rest.invariant in
    one_more_octet _ _ _ _ so_far.0 c.split_at.result.0.now c.split_at.result.1.now c.loop-rest.rest.now
    c.in_ok-rest.rest.now c.args.text.now so_far.1
    (rw (c.split_at.ensures.front, c.split_at.ensures.back) (take-append-drop _ c.loop-rest.rest.now))
    c.in_ok-rest.ensures.0 (rw c.split_at.ensures.front c.plain_len.ensures.plain) so_far.2
    (gained _ _ _ c.in_ok-write_all.ensures.bytes) c.in_ok-rest.ensures.1
