-- The fields, one after another; the ports are those of what is quoted.
use Rattle.packet_fields.proofs.Fields.{◌and◌, prints_last}
use Rattle.icmp_fields.proofs.quote.show_ipv6_quote.Goals as goal

pub returns : goal.returns
returns g c =
    let other = rw c.other_protocol.ensures at c.in_ok-show_other.ensures in
    let ports = rw c.upper_ports.ensures at c.in_ok-show_ports.ensures in
    prints_last _ _ _ (c.in_ok-show_flow.ensures and c.in_ok-show_ipv6_path.ensures and other and ports) c.field.ensures
