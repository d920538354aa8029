-- The records, that some are missing, and the octets behind them.
use Rattle.packet_fields.proofs.Fields.{◌and◌, prints_last}
use Rattle.neighbor_fields.proofs.records.show_records.Goals as goal

pub returns : goal.returns
returns g c =
    let additional = rw c.behind_parts.ensures at c.show_additional.ensures in
    prints_last _ _ _ (c.in_ok-show_parts.ensures and c.in_ok-show_lack.ensures) additional
