-- What an ICMPv4 message prints.
use Rattle.std.specs.Prelude.{◌++◌, List, ℕ, codes, decimal}
use Rattle.listing.specs.Words.{Checksum, address_text, all_of, octets_text, protocol_number}
use Rattle.wirebase.specs.declared.ipv4.Ipv4Repr.{Ipv4Repr}
use Rattle.icmp4_wire.specs.Icmpv4.{IsMessage, MessageValue, echo_request, echo_reply, unreachable, time_exceeded}
use Rattle.icmp4_wire.specs.Icmpv4Tables.{unreachable_number, time_exceeded_number}
use Rattle.listing.specs.Layout.{line, field, part_field, IsListingOrRefused}

abbrev pub echo_listing : List ℕ → ℕ → ℕ → List ℕ → List ℕ
echo_listing name ident seq_no d =
    line name
    ++ field (codes "ident") (decimal ident)
    ++ field (codes "seq_no") (decimal seq_no)
    ++ field (codes "data") (octets_text d)

abbrev pub header_listing : List ℕ → Ipv4Repr → List ℕ
header_listing part header =
    part_field part (codes "src_addr") (address_text header.src_addr)
    ++ part_field part (codes "dst_addr") (address_text header.dst_addr)
    ++ part_field part (codes "next_header") (decimal (protocol_number header.next_header))
    ++ part_field part (codes "payload_len") (decimal header.payload_len)
    ++ part_field part (codes "hop_limit") (decimal header.hop_limit)

abbrev pub error_listing : List ℕ → ℕ → Ipv4Repr → List ℕ → List ℕ
error_listing name reason quoted d =
    line name
    ++ field (codes "reason") (decimal reason)
    ++ header_listing (codes "header.") quoted
    ++ field (codes "data") (octets_text d)

abbrev pub icmp4_listing : MessageValue → List ℕ
icmp4_listing (echo_request ident seq_no d) = echo_listing (codes "EchoRequest") ident seq_no d
icmp4_listing (echo_reply ident seq_no d) = echo_listing (codes "EchoReply") ident seq_no d
icmp4_listing (unreachable reason quoted d) =
    error_listing (codes "DstUnreachable") (unreachable_number reason) quoted d
icmp4_listing (time_exceeded reason quoted d) =
    error_listing (codes "TimeExceeded") (time_exceeded_number reason) quoted d

abbrev pub Icmp4Prints : List ℕ → List ℕ → Type 0
Icmp4Prints octets = IsListingOrRefused (IsMessage (all_of Checksum.Both) octets) icmp4_listing
