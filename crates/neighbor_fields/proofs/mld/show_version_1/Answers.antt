-- The fields, and the octets behind them.
use Rattle.packet_fields.proofs.Fields.{◌and◌, prints_last}
use Rattle.neighbor_fields.proofs.mld.show_version_1.Goals as goal

pub returns : goal.returns
returns g c =
    let delay = rw (c.millis-delay.ensures, c.u16_at.ensures) at c.in_ok-field-2.ensures in
    let additional = rw c.split_at.ensures.back at c.show_additional.ensures in
    prints_last _ _ _ (c.in_ok-field.ensures and delay and c.in_ok-show_group.ensures) additional
