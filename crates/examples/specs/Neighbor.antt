-- What a host of an Ethernet sends to find its neighbors, whom it answers, and what it takes from their advertisements
-- (RFC 4861).
use Rattle.std.specs.Prelude.{◌≡◌, ℕ, List, [], ◌∷◌, Option, None, Some, take, replicate}
use Rattle.std.specs.Int.RustNames.{bit_and}
use Rattle.control_wire.specs.Capabilities.{all_of}
use Rattle.control_wire.specs.ChecksumType.TheVariants.{Both}
use Rattle.control_wire.specs.Ipv6Address.{octets_of, IsMulticast}
use Rattle.control_wire.specs.Ipv6AddressType.{Ipv6Address}
use Rattle.control_wire.specs.Icmpv6.{ndisc, packet_text}
use Rattle.control_wire.specs.Ndisc.{NdiscValue, neighbor_solicit, neighbor_advert}
use Rattle.control_wire.specs.NdiscOptionsSeen.{link_of}
use Rattle.control_wire.specs.NdiscNeighborFlagsType.{NeighborFlags}
use Rattle.control_wire.specs.NdiscTables.{neighbor_bits}
use Rattle.examples.specs.Ping.{IsGoodMessageV6}
use Rattle.examples.specs.declared.neighbor.NeighborInformation.{NeighborInformation}
use Rattle.examples.specs.declared.neighbor.NeighborRequest.{NeighborRequest}

-- ---- addresses

-- no address, ::
abbrev pub IsUnspecified : Ipv6Address → Type 0
IsUnspecified address = octets_of address ≡ replicate 16 0

-- all nodes of a link, ff02::1
abbrev pub IsAllNodes : Ipv6Address → Type 0
IsAllNodes address =
    octets_of address ≡ 0xff ∷ 2 ∷ 0 ∷ 0 ∷ 0 ∷ 0 ∷ 0 ∷ 0 ∷ 0 ∷ 0 ∷ 0 ∷ 0 ∷ 0 ∷ 0 ∷ 0 ∷ 1 ∷ []

-- the first 13 octets of every solicited-node address, ff02::1:ff00:0/104 (RFC 4291 section 2.7.1)
abbrev pub solicited_node_prefix : List ℕ
solicited_node_prefix = 0xff ∷ 2 ∷ 0 ∷ 0 ∷ 0 ∷ 0 ∷ 0 ∷ 0 ∷ 0 ∷ 0 ∷ 0 ∷ 1 ∷ 0xff ∷ []

abbrev pub IsSolicitedNode : Ipv6Address → Type 0
IsSolicitedNode address = take 13 (octets_of address) ≡ solicited_node_prefix

-- ---- what a host sends

-- a sender tells its link-layer address, except from :: (sections 4.1 and 4.3)
pub record IsSender (own : Ipv6Address) (address : List ℕ) (told : Option (List ℕ)) : Type 0 where
  pub specified : (IsUnspecified own → ⊥) → told ≡ Some address
  pub unspecified : IsUnspecified own → told ≡ None

-- the solicitation of a neighbor, from this host
abbrev pub IsSolicitation : Ipv6Address → Ipv6Address → Ipv6Address → List ℕ → List ℕ → Type 0
IsSolicitation own destination target address bytes =
    (told : Option (List ℕ)) × IsSender own address told
    × (bytes ≡ packet_text (all_of Both) own destination (ndisc (neighbor_solicit target told)))

-- ---- what a host receives

-- a message of neighbor discovery that was not forwarded, with a good checksum (sections 6.1 and 7.1)
abbrev pub IsReceived : Ipv6Address → Ipv6Address → ℕ → List ℕ → NdiscValue → Type 0
IsReceived source destination hops bytes v = (hops ≡ 255) × IsGoodMessageV6 source destination bytes (ndisc v)

-- A message is the solicitation of the neighbor that has this address, no group's; from ::, where a host sees whether
-- the address is taken, it went to a solicited-node address and tells no address on the link (section 7.1.1).
abbrev pub LooksFor : Ipv6Address → Ipv6Address → Ipv6Address → NdiscValue → Type 0
LooksFor peer asked own (neighbor_solicit target told) =
    (octets_of target ≡ octets_of own) × (IsMulticast target → ⊥)
    × (IsUnspecified peer → IsSolicitedNode asked × (told ≡ None))
LooksFor peer asked own v = ⊥

-- what a message looks for that is a solicitation, and the link-layer address of its sender
abbrev pub RequestIn : Ipv6Address → Ipv6Address → NeighborRequest → NdiscValue → Type 0
RequestIn peer asked request (neighbor_solicit target told) =
    (target ≡ request.target) × (told ≡ link_of request.lladdr) × (IsMulticast target → ⊥)
    × (IsUnspecified peer → IsSolicitedNode asked × (told ≡ None))
RequestIn peer asked request v = ⊥

-- a valid solicitation, which looks for this
abbrev pub TellsRequest : Ipv6Address → Ipv6Address → ℕ → List ℕ → NeighborRequest → Type 0
TellsRequest peer asked hops bytes request =
    (v : NdiscValue) × IsReceived peer asked hops bytes v × RequestIn peer asked request v

-- a valid solicitation of the neighbor that has this address
abbrev pub Solicits : Ipv6Address → Ipv6Address → ℕ → Ipv6Address → List ℕ → Type 0
Solicits peer asked hops own bytes = (v : NdiscValue) × IsReceived peer asked hops bytes v × LooksFor peer asked own v

-- The advertisement that answers it, with its checksum: it goes to the one that asked, as solicited, or from :: to all
-- nodes, and takes the place of what is known of the address (section 7.2.4).
pub record IsAnswer (own peer destination : Ipv6Address) (address bytes : List ℕ) : Type 0 where
  pub flags : NeighborFlags
  pub solicited : (IsUnspecified peer → ⊥) → (destination ≡ peer) × (neighbor_bits flags ≡ 0x60)
  pub unsolicited : IsUnspecified peer → IsAllNodes destination × (neighbor_bits flags ≡ 0x20)
  pub text : bytes ≡ packet_text (all_of Both) own destination (ndisc (neighbor_advert flags own (Some address)))

-- an advertisement answers a solicitation
abbrev pub IsSolicited : NeighborFlags → Type 0
IsSolicited flags = bit_and (neighbor_bits flags) 0x40 ≡ 0x40

-- A message is the advertisement of a neighbor, no group's, which tells this of it; to a group it is not solicited
-- (section 7.1.2).
abbrev pub NeighborIn : Ipv6Address → NeighborInformation → NdiscValue → Type 0
NeighborIn destination neighbor (neighbor_advert flags target told) =
    (flags ≡ neighbor.flags) × (target ≡ neighbor.addr) × (told ≡ link_of neighbor.lladdr)
    × (IsMulticast target → ⊥)
    × (IsMulticast destination → IsSolicited flags → ⊥)
NeighborIn destination neighbor v = ⊥

-- a valid advertisement of a neighbor
abbrev pub TellsNeighbor : Ipv6Address → Ipv6Address → ℕ → List ℕ → NeighborInformation → Type 0
TellsNeighbor source destination hops bytes neighbor =
    (v : NdiscValue) × IsReceived source destination hops bytes v × NeighborIn destination neighbor v
