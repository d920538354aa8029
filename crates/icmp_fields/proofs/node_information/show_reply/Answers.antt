-- The fields, and the answer.
use Rattle.packet_fields.proofs.Fields.{prints_last}
use Rattle.icmp_fields.proofs.node_information.show_reply.Goals as goal

pub returns : goal.returns
returns g c =
    let answer = rw (c.u16_at-qtype.ensures, c.split_at.ensures.back) at c.show_answer.ensures in
    prints_last _ _ _ c.in_ok-show_fields.ensures answer
