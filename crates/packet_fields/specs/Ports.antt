-- The ports at the start of a header of UDP (RFC 768) and of TCP (RFC 9293 section 3.1).
--
--  0                   1                   2                   3
--  0 1 2 3 4 5 6 7 8 9 0 1 2 3 4 5 6 7 8 9 0 1 2 3 4 5 6 7 8 9 0 1
-- +-------------------------------+-------------------------------+
-- |          source port          |       destination port        |
-- +-------------------------------+-------------------------------+
use Rattle.std.specs.Prelude.{◌&&◌, Bool, List, None, Option, Some, ℕ, false, if◌then◌else◌, length, nat_le, true}
use Rattle.wirebase.specs.Bytes.{number_of}
use Rattle.wirebase.specs.Bytes.{Field, field}
use Rattle.wirebase.specs.declared.ip.IpProtocol.{IpProtocol}

-- the protocols whose headers begin with ports
abbrev pub has_ports : IpProtocol → Bool
has_ports IpProtocol.Tcp = true
has_ports IpProtocol.Udp = true
has_ports _ = false

abbrev pub source_port_field : Field
source_port_field = field 0 2

abbrev pub destination_port_field : Field
destination_port_field = field 2 4

-- the ports of the source and of the destination, where both are there
abbrev pub ports_in : IpProtocol → List ℕ → Option (ℕ × ℕ)
ports_in protocol bytes =
    if has_ports protocol && nat_le 4 (length bytes)
    then Some (number_of source_port_field bytes, number_of destination_port_field bytes)
    else None
