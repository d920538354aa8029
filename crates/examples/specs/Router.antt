-- What a host of an Ethernet sends to find its routers, and what it takes from their advertisements (RFC 4861).
use Rattle.std.specs.Prelude.{◌≡◌, ℕ, List, [], ◌∷◌, Option, drop}
use Rattle.std.specs.List.{filter_map}
use Rattle.control_wire.specs.Capabilities.{all_of}
use Rattle.control_wire.specs.ChecksumType.TheVariants.{Both}
use Rattle.control_wire.specs.Ipv6Address.{octets_of, IsLinkLocal}
use Rattle.control_wire.specs.Ipv6AddressType.{Ipv6Address}
use Rattle.control_wire.specs.Icmpv6.{ndisc, packet_text}
use Rattle.control_wire.specs.Ndisc.{NdiscValue, router_solicit, router_advert}
use Rattle.control_wire.specs.NdiscBlocks.{AreBlocks, prefix_in}
use Rattle.control_wire.specs.NdiscOptionsSeen.{link_of}
use Rattle.control_wire.specs.NdiscOptionRepr.{OptionValue}
use Rattle.control_wire.specs.NdiscPrefixInformationType.{PrefixInformation}
use Rattle.examples.specs.Neighbor.{IsSender, IsReceived}
use Rattle.examples.specs.declared.router.RouterInformation.{RouterInformation}

-- all routers of a link, ff02::2
abbrev pub IsAllRouters : Ipv6Address → Type 0
IsAllRouters address =
    octets_of address ≡ 0xff ∷ 2 ∷ 0 ∷ 0 ∷ 0 ∷ 0 ∷ 0 ∷ 0 ∷ 0 ∷ 0 ∷ 0 ∷ 0 ∷ 0 ∷ 0 ∷ 0 ∷ 2 ∷ []

-- the solicitation of all routers, from this host
abbrev pub IsSolicitation : Ipv6Address → List ℕ → List ℕ → Type 0
IsSolicitation own address bytes =
    (routers : Ipv6Address) × IsAllRouters routers
    × (told : Option (List ℕ)) × IsSender own address told
    × (bytes ≡ packet_text (all_of Both) own routers (ndisc (router_solicit told)))

-- a message is the advertisement of a router, which tells this of it and of the link
abbrev pub RouterIn : RouterInformation → NdiscValue → Type 0
RouterIn router (router_advert a) =
    (a.hop_limit ≡ router.hop_limit) × (a.flags ≡ router.flags)
    × (a.router_lifetime ≡ router.lifetime) × (a.reachable_time ≡ router.reachable_time)
    × (a.retrans_time ≡ router.retrans_time)
    × (a.lladdr ≡ link_of router.lladdr)
    × (a.mtu ≡ router.mtu)
RouterIn router v = ⊥

-- a valid advertisement of a router: it comes from an address of the link (section 6.1.2)
abbrev pub TellsRouter : Ipv6Address → Ipv6Address → ℕ → List ℕ → RouterInformation → Type 0
TellsRouter source destination hops bytes router =
    IsLinkLocal source × (v : NdiscValue) × IsReceived source destination hops bytes v × RouterIn router v

-- the options of a router's advertisement
abbrev pub options_in : List ℕ → List ℕ
options_in bytes = drop 16 bytes

-- options tell these prefixes, in their order
pub record TellPrefixes (bytes : List ℕ) (prefixes : List PrefixInformation) : Type 0 where
  pub options : List OptionValue
  pub tiling : AreBlocks bytes options
  pub told : prefixes ≡ filter_map prefix_in options
