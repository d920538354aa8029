-- The fields, one after another; the ports are those of what is quoted.
use Rattle.packet_fields.proofs.Fields.{◌and◌, prints_last}
use Rattle.icmp_fields.proofs.quote.show_ipv4_quote.Goals as goal

pub returns : goal.returns
returns g c =
    let ports = rw c.ipv4_ports_of.ensures at c.in_ok-show_ports.ensures in
    prints_last _ _ _
    (c.in_ok-show_fragment.ensures and c.in_ok-show_ipv4_path.ensures and c.in_ok-field.ensures and ports)
    c.field-2.ensures
