-- What messages tell of neighbors and routers.
use Rattle.std.proofs.Common.{◌≡◌, ℕ, List, [], ◌∷◌, Option, None, Some, length, drop, slice_index, refl, ap, ◌∙◌}
use Rattle.std.proofs.Common.{arith, subst}
use Rattle.std.proofs.Math.ListN.{drop_of_length-le}
use Rattle.std.proofs.lemmas.List.{drop_more}
use Rattle.std.specs.List.{filter_map}
use Rattle.control_wire.proofs.HardwareAddresses.{same_raw}
use Rattle.control_wire.specs.DurationType.{Duration}
use Rattle.control_wire.specs.Icmpv6.{MessageValue, ndisc}
use Rattle.control_wire.specs.Icmpv6Packet.{header_len_of}
use Rattle.control_wire.specs.Icmpv6Tables.{message_of}
use Rattle.control_wire.specs.Ipv6AddressType.{Ipv6Address}
use Rattle.control_wire.specs.Ndisc.{NdiscValue, router_solicit, router_advert, neighbor_solicit}
use Rattle.control_wire.specs.Ndisc.{neighbor_advert, redirect}
use Rattle.control_wire.specs.NdiscBlocks.{AreBlocks, prefix_in}
use Rattle.control_wire.specs.NdiscOptionsSeen.{link_of}
use Rattle.control_wire.specs.NdiscNeighborFlagsType.{NeighborFlags}
use Rattle.control_wire.specs.NdiscPrefixInformationType.{PrefixInformation}
use Rattle.control_wire.specs.NdiscRouterFlagsType.{RouterFlags}
use Rattle.control_wire.specs.RawHardwareAddressType.{RawHardwareAddress}
use Rattle.examples.specs.Neighbor.{NeighborIn, RequestIn}
use Rattle.examples.specs.Ping.{IsGoodMessageV6}
use Rattle.examples.specs.Router.{RouterIn, options_in, TellPrefixes}
use Rattle.examples.specs.declared.neighbor.NeighborInformation.{NeighborInformation}
use Rattle.examples.specs.declared.neighbor.NeighborRequest.{NeighborRequest}
use Rattle.examples.specs.declared.router.RouterInformation.{RouterInformation}

-- the message of neighbor discovery inside one of ICMPv6
abbrev pub content_in : MessageValue → NdiscValue
content_in (ndisc v) = v
content_in _ = router_solicit None

-- the last three octets of an address
pub last_three : (octets : List ℕ) → length octets ≡ 16
    → drop 13 octets ≡ slice_index octets 13 ∷ slice_index octets 14 ∷ slice_index octets 15 ∷ []
last_three octets whole =
    drop_more octets 13 0 (omega (arith, whole))
    ∙ ap (λ (l : List ℕ). slice_index octets 13 ∷ l) (drop_more octets 14 0 (omega (arith, whole))
    ∙ ap (λ (l : List ℕ). slice_index octets 14 ∷ l) (drop_more octets 15 0 (omega (arith, whole))
    ∙ ap (λ (l : List ℕ). slice_index octets 15 ∷ l) (drop_of_length-le octets {i = 16} (omega (arith, whole)))))

-- link-layer addresses with equal bytes are equal
some_bytes : Option (List ℕ) → List ℕ
some_bytes None = []
some_bytes (Some bytes) = bytes

same_link : (x y : Option RawHardwareAddress) → link_of x ≡ link_of y → x ≡ y
unfolding some_bytes
same_link None None e = refl
same_link None (Some y) e = cc
same_link (Some x) None e = cc
same_link (Some x) (Some y) e = ap (λ (a : RawHardwareAddress). Some a) (same_raw x y (ap some_bytes e))

abbrev neighbor_of : NeighborFlags → Ipv6Address → Option RawHardwareAddress → NeighborInformation
neighbor_of flags addr lladdr = record { addr = addr; flags = flags; lladdr = lladdr }

-- an advertisement tells one thing of its neighbor
pub one_neighbor : (destination : Ipv6Address) (neighbor : NeighborInformation) (flags : NeighborFlags)
    (addr : Ipv6Address) (lladdr : Option RawHardwareAddress)
    → NeighborIn destination neighbor (neighbor_advert flags addr (link_of lladdr))
    → neighbor_of flags addr lladdr ≡ neighbor
one_neighbor destination neighbor flags addr lladdr is =
    ap (λ (f : NeighborFlags). neighbor_of f addr lladdr) is.0
    ∙ ap (λ (a : Ipv6Address). neighbor_of neighbor.flags a lladdr) is.1
    ∙ ap (λ (l : Option RawHardwareAddress). neighbor_of neighbor.flags neighbor.addr l)
    (same_link lladdr neighbor.lladdr is.2)

abbrev request_of : Ipv6Address → Option RawHardwareAddress → NeighborRequest
request_of target lladdr = record { target = target; lladdr = lladdr }

-- a solicitation looks for one thing
pub one_request : (peer asked : Ipv6Address) (request : NeighborRequest) (target : Ipv6Address)
    (lladdr : Option RawHardwareAddress)
    → RequestIn peer asked request (neighbor_solicit target (link_of lladdr)) → request_of target lladdr ≡ request
one_request peer asked request target lladdr is =
    ap (λ (a : Ipv6Address). request_of a lladdr) is.0
    ∙ ap (λ (l : Option RawHardwareAddress). request_of request.target l) (same_link lladdr request.lladdr is.1)

abbrev router_of : ℕ → RouterFlags → Duration → Duration → Duration → Option RawHardwareAddress → Option ℕ
    → RouterInformation
router_of hops flags lifetime reachable retrans lladdr mtu = record {
  hop_limit = hops;
  flags = flags;
  lifetime = lifetime;
  reachable_time = reachable;
  retrans_time = retrans;
  lladdr = lladdr;
  mtu = mtu;
}

-- an advertisement tells one thing of its router
pub one_router : {v : NdiscValue} {prefix_info : Option PrefixInformation} (router : RouterInformation) (hops : ℕ)
    (flags : RouterFlags) (lifetime reachable retrans : Duration) (lladdr : Option RawHardwareAddress) (mtu : Option ℕ)
    → v ≡ router_advert (record {
      hop_limit = hops;
      flags = flags;
      router_lifetime = lifetime;
      reachable_time = reachable;
      retrans_time = retrans;
      lladdr = link_of lladdr;
      mtu = mtu;
      prefix_info = prefix_info;
    }) → RouterIn router v
    → router_of hops flags lifetime reachable retrans lladdr mtu ≡ router
one_router router hops flags lifetime reachable retrans lladdr mtu e told =
    let is = subst (λ (v : NdiscValue). RouterIn router v) e told in
    let link = same_link lladdr router.lladdr is.5 in
    ap (λ (x : ℕ). router_of x flags lifetime reachable retrans lladdr mtu) is.0
    ∙ ap (λ (x : RouterFlags). router_of router.hop_limit x lifetime reachable retrans lladdr mtu) is.1
    ∙ ap (λ (x : Duration). router_of router.hop_limit router.flags x reachable retrans lladdr mtu) is.2
    ∙ ap (λ (x : Duration). router_of router.hop_limit router.flags router.lifetime x retrans lladdr mtu) is.3
    ∙ ap (λ (x : Duration). router_of router.hop_limit router.flags router.lifetime router.reachable_time x lladdr mtu)
    is.4
    ∙ ap (λ (x : Option RawHardwareAddress). router_of router.hop_limit router.flags router.lifetime
    router.reachable_time router.retrans_time x mtu) link
    ∙ ap (λ (x : Option ℕ). router_of router.hop_limit router.flags router.lifetime router.reachable_time
    router.retrans_time router.lladdr x) is.6

-- the options of a router's advertisement tell prefixes
pub tell_prefixes : (source destination : Ipv6Address) (bytes : List ℕ) (v : NdiscValue) (router : RouterInformation)
    → IsGoodMessageV6 source destination bytes (ndisc v) → RouterIn router v
    → (prefixes : List PrefixInformation) × TellPrefixes (options_in bytes) prefixes
tell_prefixes source destination bytes (router_advert a) router good is =
    let message = good.content in (
      filter_map prefix_in message.options,
      record {
        options = message.options;
        tiling = subst (λ (k : ℕ). AreBlocks (drop (header_len_of (message_of k)) bytes) message.options)
            message.content.kind message.tiling;
        told = refl;
      },
    )
tell_prefixes source destination bytes (router_solicit l) router good is = absurd is
tell_prefixes source destination bytes (neighbor_solicit t l) router good is = absurd is
tell_prefixes source destination bytes (neighbor_advert flags t l) router good is = absurd is
tell_prefixes source destination bytes (redirect t d l r) router good is = absurd is
