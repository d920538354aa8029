-- What an option of neighbor discovery prints.
use Rattle.std.specs.Prelude.{[], ◌++◌, List, ℕ, codes, decimal}
use Rattle.listing.specs.Words.{Ipv6Repr, PrefixInformation, octets_text}
use Rattle.opt_wire.specs.NdiscOptionTables.{flag_bits}
use Rattle.opt_wire.specs.NdiscOptionRepr.{OptionValue, source, target, prefix_information, redirected, mtu, unknown}
use Rattle.opt_wire.specs.NdiscOptionRepr.{BeginsWith}
use Rattle.listing.specs.Layout.{line, field, part_field, millis_text, IsListingOrRefused}
use Rattle.listing.specs.ListingIpv6.{address_text, header_listing}

-- a prefix, after the name of the part that it is
abbrev pub prefix_listing : List ℕ → PrefixInformation → List ℕ
prefix_listing part p =
    part_field part (codes "prefix_len") (decimal p.prefix_len)
    ++ part_field part (codes "flags") (decimal (flag_bits p.flags))
    ++ part_field part (codes "valid_lifetime") (millis_text p.valid_lifetime)
    ++ part_field part (codes "preferred_lifetime") (millis_text p.preferred_lifetime)
    ++ part_field part (codes "prefix") (address_text p.prefix)

-- a redirected packet, after the names of its header and of the part that it is
abbrev pub redirected_listing : List ℕ → List ℕ → Ipv6Repr → List ℕ → List ℕ
redirected_listing header_part part h d =
    header_listing header_part h ++ part_field part (codes "data") (octets_text d)

abbrev pub ndopt_listing : OptionValue → List ℕ
ndopt_listing (source address) = field (codes "SourceLinkLayerAddr") (octets_text address)
ndopt_listing (target address) = field (codes "TargetLinkLayerAddr") (octets_text address)
ndopt_listing (prefix_information p) = line (codes "PrefixInformation") ++ prefix_listing [] p
ndopt_listing (redirected h d) = line (codes "RedirectedHeader") ++ redirected_listing (codes "header.") [] h d
ndopt_listing (mtu n) = field (codes "Mtu") (decimal n)
ndopt_listing (unknown t n d) =
    line (codes "Unknown")
    ++ field (codes "type_") (decimal t)
    ++ field (codes "length") (decimal n)
    ++ field (codes "data") (octets_text d)

abbrev pub NdoptPrints : List ℕ → List ℕ → Type 0
NdoptPrints octets = IsListingOrRefused (BeginsWith octets) ndopt_listing
