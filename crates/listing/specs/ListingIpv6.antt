-- How an IPv6 header is listed as the part of a value.
use Rattle.std.specs.Prelude.{◌++◌, List, ℕ, codes, decimal}
use Rattle.listing.specs.Words.{Ipv6Address, Ipv6Repr, octets_of, octets_text, protocol_number}
use Rattle.listing.specs.Layout.{part_field}

-- an address: its octets
abbrev pub address_text : Ipv6Address → List ℕ
address_text address = octets_text (octets_of address)

abbrev pub header_listing : List ℕ → Ipv6Repr → List ℕ
header_listing part header =
    part_field part (codes "src_addr") (address_text header.src_addr)
    ++ part_field part (codes "dst_addr") (address_text header.dst_addr)
    ++ part_field part (codes "next_header") (decimal (protocol_number header.next_header))
    ++ part_field part (codes "payload_len") (decimal header.payload_len)
    ++ part_field part (codes "hop_limit") (decimal header.hop_limit)
