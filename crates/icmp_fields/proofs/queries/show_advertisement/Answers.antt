-- The lifetime, the routers, and the octets behind them.
use Rattle.std.proofs.Common.{◌≡◌, arith, length, min}
use Rattle.std.proofs.lemmas.Grind.{common_steps}
use Rattle.std.proofs.lemmas.List.{drop_min}
use Rattle.packet_fields.proofs.Fields.{◌and◌, prints_last}
use Rattle.icmp_fields.proofs.queries.show_advertisement.Goals as goal

pub returns : goal.returns
returns g c =
    let message = c.args.message.now in
    let end = c.routers_end.result in
    let lifetime = rw c.u16_at.ensures at c.in_ok-field.ensures in
    let routers = rw c.split_at.ensures.back at c.in_ok-show_routers.ensures in
    let min_is : c.min.result ≡ min end (length message) = grind (arith, common_steps) in
    let behind =
    rw (c.split_at-2.ensures.back, min_is, drop_min end message, c.routers_end.ensures) at c.show_additional.ensures in
    prints_last _ _ _ (lifetime and routers) behind
