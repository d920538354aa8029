-- The times, one after another.
use Rattle.packet_fields.proofs.Fields.{◌and◌, prints_last}
use Rattle.icmp_fields.proofs.queries.show_times.Goals as goal

pub returns : goal.returns
returns g c =
    let originate = rw c.u32_at.ensures at c.in_ok-field.ensures in
    let receive = rw c.u32_at-2.ensures at c.in_ok-field-2.ensures in
    let transmit = rw c.u32_at-3.ensures at c.field-3.ensures in
    prints_last _ _ _ (originate and receive) transmit
