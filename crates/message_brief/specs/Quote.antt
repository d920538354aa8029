-- What ICMP errors quote of a datagram: from where it came and to where it went, and its protocol.
use Rattle.std.specs.Prelude.{◌==◌, ◌&&◌, ◌*◌, ◌++◌, [], Bool, List, None, Option, Some, ℕ, codes, decimal, drop}
use Rattle.std.specs.Prelude.{if◌then◌else◌, length, nat_le, take}
use Rattle.wirebase.specs.Bytes.{byte_of, bytes_of}
use Rattle.wirebase.specs.Ip.{protocol_number, protocol_of}
use Rattle.wirebase.specs.Ipv4 as ipv4
use Rattle.wirebase.specs.Ipv6 as ipv6
use Rattle.wirebase.specs.declared.ip.IpProtocol.{IpProtocol}
use Rattle.extension_wire.specs.Split.{unit}
use Rattle.extension_wire.specs.declared.family.Family.{Family}
use Rattle.quote_wire.specs.Upper.{UpperValue, own_part}
use Rattle.packet_fields.specs.Labels.{label_text}
use Rattle.packet_fields.specs.Ports.{ports_in}
use Rattle.packet_fields.specs.Texts.{address_text}
use Rattle.icmp_fields.specs.Names.{name_in}
use Rattle.icmp_fields.specs.ProtocolNames.{protocol_names}
use Rattle.icmp_fields.specs.Quote.{own_payload, upper_ports}
use Rattle.message_brief.specs.Upper.{upper_in}
use Rattle.message_brief.specs.Words.{word}

-- an address and its port, as `192.0.2.1:53` and `[2001:db8::1]:53` (RFC 5952 section 6)
unfoldable pub with_port : List ℕ → ℕ → List ℕ
with_port address port =
    if length address == 16 then codes "[" ++ (address_text address ++ (codes "]:" ++ decimal port))
    else address_text address ++ (codes ":" ++ decimal port)

-- from where to where
abbrev pub path_text : List ℕ → List ℕ → Option (ℕ × ℕ) → List ℕ
path_text source destination None = address_text source ++ (codes ">" ++ address_text destination)
path_text source destination (Some (p, q)) = with_port source p ++ (codes ">" ++ with_port destination q)

abbrev pub protocol_text : IpProtocol → List ℕ
protocol_text protocol =
    label_text (name_in protocol_names (protocol_number protocol)) (codes "protocol") (protocol_number protocol)

unfoldable pub quoted_text : List ℕ → List ℕ → Option (ℕ × ℕ) → IpProtocol → List ℕ
quoted_text source destination ports protocol =
    codes " quoted=" ++ (path_text source destination ports ++ word (protocol_text protocol))

-- ---- what is quoted, without extensions (RFC 4884 section 3)

-- The length of an error counts words of 4 octets, or of 8 in ICMPv6. It tells where the quoted part ends where these
-- are 128 octets or more, and all there.
abbrev pub tells_end : Family → ℕ → List ℕ → Bool
tells_end f n bytes = nat_le 128 (unit f * n) && nat_le (unit f * n) (length bytes)

abbrev pub quoted_part : Family → ℕ → List ℕ → List ℕ
quoted_part f n bytes = if tells_end f n bytes then take (unit f * n) bytes else bytes

-- ---- IPv4 (RFC 791 section 3.1)

-- the octets begin with a header of version 4, of 20 octets or more by its own length
abbrev pub has_header_len : List ℕ → Bool
has_header_len bytes = nat_le 20 (ipv4.header_len_in bytes) && nat_le (ipv4.header_len_in bytes) (length bytes)

abbrev pub quotes4 : List ℕ → Bool
quotes4 bytes = nat_le 20 (length bytes) && ((ipv4.version_in bytes == 4) && has_header_len bytes)

abbrev pub protocol4 : List ℕ → IpProtocol
protocol4 bytes = protocol_of (byte_of ipv4.protocol_field bytes)

abbrev pub own4 : List ℕ → List ℕ
own4 bytes =
    own_payload (ipv4.total_len_in bytes) (ipv4.header_len_in bytes) (drop (ipv4.header_len_in bytes) bytes)

-- a fragment that is not the first begins with no header
abbrev pub ports4 : List ℕ → Option (ℕ × ℕ)
ports4 bytes = if ipv4.frag_offset_in bytes == 0 then ports_in (protocol4 bytes) (own4 bytes) else None

abbrev pub quote4_text : List ℕ → List ℕ
quote4_text bytes =
    if quotes4 bytes
    then quoted_text (bytes_of ipv4.src_addr_field bytes) (bytes_of ipv4.dst_addr_field bytes)
    (ports4 bytes) (protocol4 bytes)
    else []

-- ---- IPv6 (RFC 8200 section 3)

abbrev pub quotes6 : List ℕ → Bool
quotes6 bytes = nat_le 40 (length bytes) && (ipv6.version_in bytes == 6)

abbrev pub next_header6 : List ℕ → IpProtocol
next_header6 bytes = protocol_of (byte_of ipv6.next_header_field bytes)

-- what the extension headers of the packet lead to
abbrev pub upper6 : List ℕ → Option UpperValue
upper6 bytes =
    upper_in (next_header6 bytes) (own_part (ipv6.payload_len_in bytes) (next_header6 bytes) (drop 40 bytes))

-- the protocol that they lead to, and where they lead nowhere the first
abbrev pub protocol_or : IpProtocol → Option UpperValue → IpProtocol
protocol_or first None = first
protocol_or first (Some upper) = upper.protocol

abbrev pub protocol6 : List ℕ → IpProtocol
protocol6 bytes = protocol_or (next_header6 bytes) (upper6 bytes)

abbrev pub ports6 : List ℕ → Option (ℕ × ℕ)
ports6 bytes = upper_ports (upper6 bytes)

abbrev pub quote6_text : List ℕ → List ℕ
quote6_text bytes =
    if quotes6 bytes
    then quoted_text (bytes_of ipv6.src_addr_field bytes) (bytes_of ipv6.dst_addr_field bytes)
    (ports6 bytes) (protocol6 bytes)
    else []
