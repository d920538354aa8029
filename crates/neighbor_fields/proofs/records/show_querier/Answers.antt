-- The fields, one after another.
use Rattle.packet_fields.proofs.Fields.{◌and◌, prints_last}
use Rattle.neighbor_fields.proofs.records.show_querier.Goals as goal

pub returns : goal.returns
returns g c =
    let interval = rw c.code_number.ensures.value at c.field-4.ensures in
    prints_last _ _ _ (c.in_ok-field.ensures and c.in_ok-field-2.ensures and c.in_ok-field-3.ensures) interval
