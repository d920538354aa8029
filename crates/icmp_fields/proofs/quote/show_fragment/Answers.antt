-- The fields, one after another.
use Rattle.packet_fields.proofs.Fields.{◌and◌, prints_last}
use Rattle.icmp_fields.proofs.quote.show_fragment.Goals as goal

pub returns : goal.returns
returns g c =
    prints_last _ _ _
    (c.in_ok-field.ensures and c.in_ok-field-2.ensures and c.in_ok-field-3.ensures and c.in_ok-field-4.ensures
    and c.in_ok-field-5.ensures)
    c.field-6.ensures
