-- The version, the group, and the octets behind it.
use Rattle.packet_fields.proofs.Fields.{◌and◌, prints_last}
use Rattle.neighbor_fields.proofs.igmp.show_group_message.Goals as goal

pub returns : goal.returns
returns g c =
    let additional = rw c.split_at.ensures.back at c.show_additional.ensures in
    prints_last _ _ _ (c.in_ok-field.ensures and c.in_ok-show_group.ensures) additional
