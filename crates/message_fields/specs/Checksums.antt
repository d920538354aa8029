-- Messages by their octets, and what their checksums say.
use Rattle.std.specs.Prelude.{◌≡◌, ◌<◌, List, length, ℕ, codes}
use Rattle.wirebase.specs.Bytes.{number_of}
use Rattle.wirebase.specs.Checksum.{IsGood}
use Rattle.wirebase.specs.declared.ipv6.address.Ipv6Address.{Ipv6Address}
use Rattle.icmp6_wire.specs.Icmpv6Packet.{message_sum}
use Rattle.frame_wire.specs.Addresses.{IsV4}
use Rattle.frame_wire.specs.Tcp.{IsSealed as IsSegmentSealed}
use Rattle.frame_wire.specs.Udp.{BeginsWhole, IsSealed, checksum_field}
use Rattle.frame_wire.specs.declared.datagram.Addresses.{Addresses}
use Rattle.message_fields.specs.declared.message.ChecksumState.{ChecksumState}
use Rattle.message_fields.specs.declared.message.ChecksumState.TheVariants as state
use Rattle.message_fields.specs.declared.message.Message.{Message}
use Rattle.message_fields.specs.declared.message.Message.TheVariants as message
use Rattle.message_fields.specs.declared.message.Service.{Service}

-- a message by its octets, as far as they are there, with the addresses that its checksum covers; of UDP from its
-- header on, and of DNS over TCP the segment from its header on and the message in it
pub data MessageValue : Type 0 where
  icmp4 : List ℕ → MessageValue
  igmp : List ℕ → MessageValue
  icmp6 : Ipv6Address → Ipv6Address → List ℕ → MessageValue
  udp : Service → Addresses → List ℕ → MessageValue
  tcp : Addresses → List ℕ → List ℕ → MessageValue

abbrev pub value_of : Message → MessageValue
value_of (message.Icmp4 octets) = icmp4 octets.now
value_of (message.Igmp octets) = igmp octets.now
value_of (message.Icmp6 source destination octets) = icmp6 source destination octets.now
value_of (message.Udp service addresses octets) = udp service addresses octets.now
value_of (message.Tcp addresses segment octets) = tcp addresses segment.now octets.now

-- what a checksum says, by whether it can't be verified, whether there is none, and whether it holds
abbrev pub Says : Type 0 → Type 0 → Type 0 → ChecksumState → Type 0
Says IsUnverified IsMissing Holds state.Unverified = IsUnverified
Says IsUnverified IsMissing Holds state.None = (IsUnverified → ⊥) × IsMissing
Says IsUnverified IsMissing Holds state.Good = (IsUnverified → ⊥) × (IsMissing → ⊥) × Holds
Says IsUnverified IsMissing Holds state.Bad = (IsUnverified → ⊥) × (IsMissing → ⊥) × (Holds → ⊥)

-- Of UDP it can't be verified where the datagram is not whole, and there may be none over IPv4 (RFC 768), which a value
-- of 0 says.
abbrev pub UdpSays : Addresses → List ℕ → ChecksumState → Type 0
UdpSays addresses octets =
    Says (BeginsWhole octets → ⊥) ((number_of checksum_field octets ≡ 0) × IsV4 addresses) (IsSealed addresses octets)

-- that of ICMP and IGMP can't be verified where it is not there
abbrev pub HasState : MessageValue → ChecksumState → Type 0
HasState (icmp4 octets) = Says (length octets < 4) ⊥ (IsGood octets 0)
HasState (igmp octets) = Says (length octets < 4) ⊥ (IsGood octets 0)
HasState (icmp6 source destination octets) =
    Says (length octets < 4) ⊥ (IsGood octets (message_sum source destination (length octets)))
HasState (udp service addresses octets) = UdpSays addresses octets
HasState (tcp addresses segment octets) = Says ⊥ ⊥ (IsSegmentSealed addresses segment)

abbrev pub state_text : ChecksumState → List ℕ
state_text state.Good = codes "good"
state_text state.Bad = codes "bad"
state_text state.None = codes "none"
state_text state.Unverified = codes "unverified"
