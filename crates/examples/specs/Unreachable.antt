-- The errors about a datagram: which they are, and about which datagrams they are sent.
use Rattle.std.specs.Prelude.{◌≡◌, ◌≢◌, ◌⊎◌, ℕ, ◌+◌, ◌≤◌, ◌<◌, min, List, ◌∷◌, take, slice_index}
use Rattle.control_wire.specs.Bytes.{byte_of, bytes_of}
use Rattle.control_wire.specs.Capabilities.{all_of}
use Rattle.control_wire.specs.ChecksumType.TheVariants.{Both}
use Rattle.control_wire.specs.Ip.{protocol_of}
use Rattle.control_wire.specs.IpProtocolType.TheVariants.{Icmp, Icmpv6}
use Rattle.control_wire.specs.Ipv4 as ipv4
use Rattle.control_wire.specs.Ipv6 as ipv6
use Rattle.control_wire.specs.Ipv6Address.{octets_of, IsMulticast}
use Rattle.control_wire.specs.Ipv6AddressType.{Ipv6Address}
use Rattle.quote_wire.specs.Error.{packet_text}
use Rattle.quote_wire.specs.Icmpv4Error as icmpv4
use Rattle.quote_wire.specs.Icmpv6Error as icmpv6
use Rattle.quote_wire.specs.declared.icmpv4_error.Kind.TheVariants as kind_v4
use Rattle.quote_wire.specs.declared.icmpv4_error.Kind.{Kind as KindV4}
use Rattle.quote_wire.specs.declared.icmpv6_error.Kind.TheVariants as kind_v6
use Rattle.quote_wire.specs.declared.icmpv6_error.Kind.{Kind as KindV6}
use Rattle.examples.specs.Neighbor.{IsUnspecified}

-- ---- over IPv4

-- the first octet of its source, and of its destination
abbrev pub source_in : List ℕ → ℕ
source_in bytes = slice_index (bytes_of ipv4.src_addr_field bytes) 0

abbrev pub destination_in : List ℕ → ℕ
destination_in bytes = slice_index (bytes_of ipv4.dst_addr_field bytes) 0

-- it is itself an ICMP error: of type 3, 4, 5, 11 or 12 (RFC 792)
abbrev pub IsError : List ℕ → Type 0
IsError bytes =
    (protocol_of (byte_of ipv4.protocol_field bytes) ≡ Icmp)
    × (kind : ℕ) × (rest : List ℕ) × (bytes_of (ipv4.payload_field bytes) bytes ≡ kind ∷ rest)
    × (((3 ≤ kind) × (kind ≤ 5)) ⊎ (kind ≡ 11) ⊎ (kind ≡ 12))

-- An error about the datagram may be sent: it is whole, it comes from one host, neither of the networks 0 and 127 nor
-- of an address of 224.0.0.0 or above, it goes to none of the latter, it is no fragment but the first, and no error
-- (RFC 1122 section 3.2.2).
pub record MayTell (bytes : List ℕ) : Type 0 where
  pub whole : ipv4.BeginsWhole bytes
  pub header : 20 ≤ ipv4.header_len_in bytes
  pub some_network : 1 ≤ source_in bytes
  pub no_loopback : source_in bytes ≢ 127
  pub from_host : source_in bytes < 224
  pub to_host : destination_in bytes < 224
  pub first : ipv4.frag_offset_in bytes ≡ 0
  pub no_error : IsError bytes → ⊥

-- the error of this type and code, with this number after its checksum; what a link has put after the datagram is not
-- quoted
abbrev pub error_about : KindV4 → ℕ → ℕ → List ℕ → List ℕ
error_about kind code rest bytes =
    packet_text (icmpv4.protocol (all_of Both))
    (record { kind = kind; code = code; rest = rest; quoted = take (ipv4.total_len_in bytes) bytes })

-- no one listens at the datagram's port, it lived too long, or it is larger than the next link carries (RFC 792, RFC
-- 1191 section 4)
abbrev pub port_unreachable : List ℕ → List ℕ
port_unreachable bytes = error_about kind_v4.DstUnreachable 3 0 bytes

abbrev pub time_exceeded : List ℕ → List ℕ
time_exceeded bytes = error_about kind_v4.TimeExceeded 0 0 bytes

abbrev pub too_big : ℕ → List ℕ → List ℕ
too_big mtu bytes = error_about kind_v4.DstUnreachable 4 mtu bytes

-- the bytes that an error takes
abbrev pub error_len : List ℕ → ℕ
error_len bytes = 8 + min (ipv4.total_len_in bytes) 548

-- ---- over IPv6

-- it is itself an ICMPv6 error, whose types are those below 128, or a redirect
abbrev pub IsErrorV6 : List ℕ → Type 0
IsErrorV6 bytes =
    (protocol_of (byte_of ipv6.next_header_field bytes) ≡ Icmpv6)
    × (kind : ℕ) × (rest : List ℕ) × (bytes_of (ipv6.payload_field bytes) bytes ≡ kind ∷ rest)
    × ((kind < 128) ⊎ (kind ≡ 137))

-- An error about the packet may be sent to its source: it is whole, the source is one host, and it is no error (RFC
-- 4443 section 2.4(e)).
pub record MayTellV6 (bytes : List ℕ) (source : Ipv6Address) : Type 0 where
  pub whole : ipv6.BeginsWhole bytes
  pub version : ipv6.version_in bytes ≡ 6
  pub source_is : octets_of source ≡ bytes_of ipv6.src_addr_field bytes
  pub specified : IsUnspecified source → ⊥
  pub unicast : IsMulticast source → ⊥
  pub no_error : IsErrorV6 bytes → ⊥

-- the packet goes to one host
abbrev pub IsToHost : List ℕ → Type 0
IsToHost bytes = slice_index (bytes_of ipv6.dst_addr_field bytes) 0 ≢ 0xff

-- the error from this host to the source
abbrev pub error_about_v6 : Ipv6Address → Ipv6Address → KindV6 → ℕ → ℕ → List ℕ → List ℕ
error_about_v6 own source kind code rest bytes =
    packet_text (icmpv6.protocol own source (all_of Both))
    (record { kind = kind; code = code; rest = rest; quoted = take (40 + ipv6.payload_len_in bytes) bytes })

abbrev pub port_unreachable_v6 : Ipv6Address → Ipv6Address → List ℕ → List ℕ
port_unreachable_v6 own source bytes = error_about_v6 own source kind_v6.DstUnreachable 4 0 bytes

abbrev pub time_exceeded_v6 : Ipv6Address → Ipv6Address → List ℕ → List ℕ
time_exceeded_v6 own source bytes = error_about_v6 own source kind_v6.TimeExceeded 0 0 bytes

abbrev pub too_big_v6 : Ipv6Address → Ipv6Address → ℕ → List ℕ → List ℕ
too_big_v6 own source mtu bytes = error_about_v6 own source kind_v6.PktTooBig 0 mtu bytes

-- the bytes that an error takes
abbrev pub error_len_v6 : List ℕ → ℕ
error_len_v6 bytes = 8 + min (40 + ipv6.payload_len_in bytes) 1232

-- an error about the packet was written into these octets, for its source
abbrev pub TellsV6 : (Ipv6Address → List ℕ) → List ℕ → List ℕ → Type 0
TellsV6 error_to bytes error = (source : Ipv6Address) × MayTellV6 bytes source × (error ≡ error_to source)
