-- The numbers, the times, and the octets behind them.
use Rattle.packet_fields.proofs.Fields.{◌and◌, prints_last}
use Rattle.icmp_fields.proofs.queries.show_timestamp.Goals as goal

pub returns : goal.returns
returns g c =
    let behind = rw c.split_at.ensures.back at c.show_additional.ensures in
    prints_last _ _ _ (c.in_ok-show_ids.ensures and c.in_ok-show_times.ensures) behind
