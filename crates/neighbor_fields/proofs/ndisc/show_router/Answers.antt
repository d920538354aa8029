-- The fields, one after another.
use Rattle.packet_fields.proofs.Fields.{◌and◌, prints_last}
use Rattle.neighbor_fields.proofs.ndisc.show_router.Goals as goal

pub returns : goal.returns
returns g c =
    let lifetime = rw c.u16_at.ensures at c.in_ok-field-2.ensures in
    let reachable = rw (c.millis-reachable_time.ensures, c.u32_at.ensures) at c.in_ok-field-3.ensures in
    let retrans = rw (c.millis-retrans_time.ensures, c.u32_at-2.ensures) at c.field-4.ensures in
    prints_last _ _ _
    (c.in_ok-field.ensures and c.in_ok-show_router_flags.ensures and c.in_ok-show_preference.ensures and lifetime
    and reachable)
    retrans
