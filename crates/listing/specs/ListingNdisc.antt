-- What a message of neighbor discovery prints.
use Rattle.std.specs.Prelude.{◌++◌, List, None, Option, Some, ℕ, codes, decimal}
use Rattle.listing.specs.Words.{Duration, Ipv6Repr, PrefixInformation, octets_text}
use Rattle.icmp6_wire.specs.Ndisc.{NdiscValue, router_solicit, router_advert, neighbor_solicit, neighbor_advert}
use Rattle.icmp6_wire.specs.Ndisc.{redirect}
use Rattle.icmp6_wire.specs.NdiscTables.{router_bits, neighbor_bits}
use Rattle.icmp6_wire.specs.declared.ndisc.flags.RouterFlags.{RouterFlags}
use Rattle.listing.specs.Layout.{line, field, millis_text, text_or_none}
use Rattle.listing.specs.ListingIpv6.{address_text}
use Rattle.listing.specs.ListingNdopt.{prefix_listing, redirected_listing}

-- parts that may be missing
abbrev pub prefix_info_listing : Option PrefixInformation → List ℕ
prefix_info_listing None = field (codes "prefix_info") (codes "none")
prefix_info_listing (Some p) = prefix_listing (codes "prefix_info.") p

abbrev pub redirected_hdr_listing : Option (Ipv6Repr × List ℕ) → List ℕ
redirected_hdr_listing None = field (codes "redirected_hdr") (codes "none")
redirected_hdr_listing (Some packet) =
    redirected_listing (codes "redirected_hdr.header.") (codes "redirected_hdr.") packet.0 packet.1

-- a link-layer address
abbrev pub lladdr_listing : Option (List ℕ) → List ℕ
lladdr_listing address = field (codes "lladdr") (text_or_none octets_text address)

-- what a router advertises of itself
abbrev pub router_listing : ℕ → RouterFlags → Duration → Duration → Duration → List ℕ
router_listing hops flags lifetime reachable retrans =
    line (codes "RouterAdvert")
    ++ field (codes "hop_limit") (decimal hops)
    ++ field (codes "flags") (decimal (router_bits flags))
    ++ field (codes "router_lifetime") (millis_text lifetime)
    ++ field (codes "reachable_time") (millis_text reachable)
    ++ field (codes "retrans_time") (millis_text retrans)

abbrev pub ndisc_listing : NdiscValue → List ℕ
ndisc_listing (router_solicit l) = line (codes "RouterSolicit") ++ lladdr_listing l
ndisc_listing (router_advert a) =
    router_listing a.hop_limit a.flags a.router_lifetime a.reachable_time a.retrans_time
    ++ lladdr_listing a.lladdr
    ++ field (codes "mtu") (text_or_none decimal a.mtu)
    ++ prefix_info_listing a.prefix_info
ndisc_listing (neighbor_solicit t l) =
    line (codes "NeighborSolicit") ++ field (codes "target_addr") (address_text t) ++ lladdr_listing l
ndisc_listing (neighbor_advert flags t l) =
    line (codes "NeighborAdvert")
    ++ field (codes "flags") (decimal (neighbor_bits flags))
    ++ field (codes "target_addr") (address_text t)
    ++ lladdr_listing l
ndisc_listing (redirect t d l r) =
    line (codes "Redirect")
    ++ field (codes "target_addr") (address_text t)
    ++ field (codes "dest_addr") (address_text d)
    ++ lladdr_listing l
    ++ redirected_hdr_listing r
