-- The fields, and the node.
use Rattle.packet_fields.proofs.Fields.{prints_last}
use Rattle.icmp_fields.proofs.node_information.show_query.Goals as goal

pub returns : goal.returns
returns g c =
    prints_last _ _ _ c.in_ok-show_fields.ensures (rw c.split_at.ensures.back at c.show_subject.ensures)
