-- Neighbor solicitations (RFC 4861 sections 4.3 and 7.2). An advertisement is sent in response to one where its flag
-- says so (section 4.4), and goes to the address that it came from. A solicitation from the unspecified address asks
-- whether an address is in use, and where it is not, nobody answers (RFC 4862 section 5.4): it awaits no answer, and
-- the advertisement that follows it has no such flag (RFC 4861 section 7.2.4).
use Rattle.std.specs.Prelude.{◌≡◌, ◌≢◌, ◌==◌, Bool, List, replicate, true, ℕ}
use Rattle.std.specs.Int.Bits.{bit_and}
use Rattle.wirebase.specs.Bytes.{Reaches, byte_of, bytes_of}
use Rattle.wirebase.specs.Ipv6Address.{octets_of}
use Rattle.icmp6_wire.specs.Icmpv6Packet.{message_in}
use Rattle.icmp6_wire.specs.NdiscPacket.{neighbor_flags_field, target_addr_field}
use Rattle.icmp6_wire.specs.NdiscTables.{known_neighbor}
use Rattle.icmp6_wire.specs.declared.icmpv6.tables.Message.{Message}
use Rattle.packet_pairs.specs.Exchange.{ExchangeValue, answering, asking}
use Rattle.packet_pairs.specs.Key.{KeyValue, neighbor}
use Rattle.packet_pairs.specs.Types.{Ipv6Address}

abbrev pub is_solicited : List ℕ → Bool
is_solicited bytes = bit_and (known_neighbor (byte_of neighbor_flags_field bytes)) 0x40 == 0x40

abbrev pub neighbor_in : Ipv6Address → List ℕ → KeyValue
neighbor_in asker bytes = neighbor (octets_of asker) (bytes_of target_addr_field bytes)

pub data IsNeighbor (source destination : Ipv6Address) (bytes : List ℕ) (e : ExchangeValue) : Type 0 where
  solicitation : Reaches target_addr_field bytes → message_in bytes ≡ Message.NeighborSolicit
      → octets_of source ≢ replicate 16 0 → e ≡ asking (neighbor_in source bytes)
      → IsNeighbor source destination bytes e
  advertisement : Reaches target_addr_field bytes → message_in bytes ≡ Message.NeighborAdvert
      → is_solicited bytes ≡ true → e ≡ answering (neighbor_in destination bytes)
      → IsNeighbor source destination bytes e
