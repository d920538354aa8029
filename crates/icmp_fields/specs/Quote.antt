-- What ICMP errors quote of a datagram, as fields.
use Rattle.std.specs.Prelude.{◌==◌, ◌+◌, ◌-◌, ◌++◌, ◌∷◌, [], List, None, Option, Some, ℕ, codes, if◌then◌else◌}
use Rattle.std.specs.Prelude.{length, nat_le, take}
use Rattle.wirebase.specs.Ip.{protocol_number}
use Rattle.wirebase.specs.Ipv4 as ipv4
use Rattle.wirebase.specs.Ipv6Address as ipv6
use Rattle.wirebase.specs.declared.ip.IpProtocol.{IpProtocol}
use Rattle.quote_wire.specs.declared.quote.Ipv4Quote.{Ipv4Quote}
use Rattle.quote_wire.specs.declared.quote.Ipv6Quote.{Ipv6Quote}
use Rattle.quote_wire.specs.Upper.{UpperValue}
use Rattle.packet_fields.specs.Ports.{ports_in}
use Rattle.packet_fields.specs.Fields.{Item, field, named, number, truth, text, octets, leaf_or_missing}
use Rattle.icmp_fields.specs.Names.{name_in}
use Rattle.icmp_fields.specs.ProtocolNames.{protocol_names}

-- What is quoted of an IPv4 datagram's own payload, by its total length and its header's: zeros may fill the quote up
-- behind it (RFC 4884 section 4). A total length below the header's is none of a datagram, and bounds nothing.
abbrev pub own_payload : ℕ → ℕ → List ℕ → List ℕ
own_payload total header payload = if nat_le header total then take (total - header) payload else payload

-- a fragment that is not the first begins with no header
abbrev pub ipv4_ports : Ipv4Quote → Option (ℕ × ℕ)
ipv4_ports q =
    if q.frag_offset == 0
    then ports_in q.next_header (own_payload q.total_len (20 + length q.options.now) q.payload.now)
    else None

-- a protocol, with its name
abbrev pub protocol_item : List ℕ → IpProtocol → Item
protocol_item name protocol =
    named name (protocol_number protocol) (name_in protocol_names (protocol_number protocol))

-- the ports of a quoted header of UDP or TCP, which may be missing
abbrev pub port_items : Option ℕ → Option ℕ → List Item
port_items source destination =
    field (codes "quoted_src_port") (leaf_or_missing number source)
    ∷ field (codes "quoted_dst_port") (leaf_or_missing number destination) ∷ []

abbrev pub ports_items : Option (ℕ × ℕ) → List Item
ports_items None = port_items None None
ports_items (Some (source, destination)) = port_items (Some source) (Some destination)

-- ---- what is quoted of IPv4 (RFC 791 section 3.1)

abbrev pub fragment_items : Ipv4Quote → List Item
fragment_items q =
    field (codes "quoted_type_of_service") (number q.type_of_service)
    ∷ field (codes "quoted_total_len") (number q.total_len)
    ∷ field (codes "quoted_ident") (number q.ident)
    ∷ field (codes "quoted_dont_frag") (truth q.dont_frag)
    ∷ field (codes "quoted_more_frags") (truth q.more_frags)
    ∷ field (codes "quoted_frag_offset") (number q.frag_offset) ∷ []

abbrev pub ipv4_path_items : Ipv4Quote → List Item
ipv4_path_items q =
    field (codes "quoted_hop_limit") (number q.hop_limit)
    ∷ protocol_item (codes "quoted_next_header") q.next_header
    ∷ field (codes "quoted_src_addr") (text (ipv4.address_text q.src_addr))
    ∷ field (codes "quoted_dst_addr") (text (ipv4.address_text q.dst_addr)) ∷ []

abbrev pub ipv4_quote_items : Ipv4Quote → List Item
ipv4_quote_items q =
    fragment_items q
    ++ ipv4_path_items q
    ++ (field (codes "quoted_options") (octets q.options.now) ∷ [])
    ++ ports_items (ipv4_ports q)
    ++ (field (codes "quoted_payload") (octets q.payload.now) ∷ [])

-- ---- what is quoted of IPv6 (RFC 8200 section 3)

abbrev pub flow_items : Ipv6Quote → List Item
flow_items q =
    field (codes "quoted_traffic_class") (number q.traffic_class)
    ∷ field (codes "quoted_flow_label") (number q.flow_label)
    ∷ field (codes "quoted_payload_len") (number q.payload_len) ∷ []

abbrev pub ipv6_path_items : Ipv6Quote → List Item
ipv6_path_items q =
    field (codes "quoted_hop_limit") (number q.hop_limit)
    ∷ protocol_item (codes "quoted_next_header") q.next_header
    ∷ field (codes "quoted_src_addr") (text (ipv6.address_text q.src_addr))
    ∷ field (codes "quoted_dst_addr") (text (ipv6.address_text q.dst_addr)) ∷ []

-- the protocol that the headers that extend IPv6 lead to, where it is another than the first
abbrev pub other_protocol : IpProtocol → Option UpperValue → Option IpProtocol
other_protocol first None = None
other_protocol first (Some upper) =
    if protocol_number upper.protocol == protocol_number first then None else Some upper.protocol

abbrev pub other_items : Option IpProtocol → List Item
other_items None = []
other_items (Some protocol) = protocol_item (codes "quoted_protocol") protocol ∷ []

-- the ports behind these headers, where they lead to a protocol
abbrev pub upper_ports : Option UpperValue → Option (ℕ × ℕ)
upper_ports None = None
upper_ports (Some upper) = ports_in upper.protocol upper.octets

abbrev pub ipv6_quote_items : Ipv6Quote → Option UpperValue → List Item
ipv6_quote_items q upper =
    flow_items q
    ++ ipv6_path_items q
    ++ other_items (other_protocol q.next_header upper)
    ++ ports_items (upper_ports upper)
    ++ (field (codes "quoted_payload") (octets q.payload.now) ∷ [])
