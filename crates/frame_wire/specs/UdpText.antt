-- UDP datagrams as they are written, and what is read in them again (RFC 768).
use Rattle.std.specs.Prelude.{◌≡◌, ◌≢◌, ◌+◌, ◌<◌, ◌≤◌, ◌^◌, [], ◌∷◌, List, ℕ, if◌then◌else◌, length, suc, true, zero}
use Rattle.frame_wire.specs.Words.{Addresses, ChecksumCapabilities, IpProtocol, UdpRepr, bytes_of}
use Rattle.byteorder.specs.Endian.{big_bytes}
use Rattle.wirebase.specs.Bytes.{with_field, over}
use Rattle.wirebase.specs.ByteWriter.{be16, fields}
use Rattle.wirebase.specs.Capabilities.{is_computed}
use Rattle.wirebase.specs.Checksum.{checksum_of}
use Rattle.wirebase.specs.Format.{Format, RoundTrips}
use Rattle.frame_wire.specs.Addresses.{IsV4, sum_before}
use Rattle.frame_wire.specs.Udp.{checksum_field, payload_field, IsDatagram, IsSealed}
use Rattle.wirebase.specs.declared.capabilities.Checksum.{Checksum}

-- by content: the ports, and the data
pub record UdpValue : Type 0 where
  pub ports : UdpRepr
  pub payload : List ℕ

abbrev pub value_of : UdpRepr → List ℕ → UdpValue
value_of r payload = record { ports = r; payload = payload }

-- the bytes that a datagram takes
abbrev pub text_len : UdpValue → ℕ
text_len v = 8 + length v.payload

-- the fields, with this checksum
abbrev pub datagram_fields : UdpValue → ℕ → List (List ℕ)
datagram_fields v checksum =
    be16 v.ports.src_port ∷ be16 v.ports.dst_port ∷ be16 (text_len v) ∷ be16 checksum ∷ v.payload ∷ []

-- the text of a value, with no checksum yet
abbrev pub text : UdpValue → List ℕ
text v = fields (datagram_fields v 0)

-- the number that is written for a checksum: for 0 its other form, since 0 means that there is none (RFC 768)
abbrev pub never_zero : ℕ → ℕ
never_zero zero = 0xffff
never_zero (suc n) = suc n

-- the checksum of a datagram that is all the bytes
abbrev pub udp_checksum : Addresses → List ℕ → ℕ
udp_checksum addresses bytes =
    never_zero (checksum_of checksum_field bytes (sum_before addresses IpProtocol.Udp (length bytes)))

-- the bytes with their checksum
unfoldable pub sealed_datagram : Addresses → List ℕ → List ℕ
sealed_datagram addresses bytes = with_field checksum_field (big_bytes 2 (udp_checksum addresses bytes)) bytes

-- the datagram of a value: with its checksum where that is computed, and else with none
abbrev pub packet_text : ChecksumCapabilities → Addresses → UdpValue → List ℕ
packet_text capabilities addresses v =
    if is_computed capabilities.udp then sealed_datagram addresses (text v) else text v

-- the bytes begin with a datagram that is read, and whose data are these
pub record Reads (capabilities : ChecksumCapabilities) (addresses : Addresses) (bytes : List ℕ) (v : UdpValue)
    : Type 0 where
  pub datagram : IsDatagram capabilities addresses bytes v.ports
  pub payload : v.payload ≡ bytes_of (payload_field bytes) bytes

-- a value that its own text gives back: it has a destination port, and its length fits its field
abbrev pub IsCanonical : UdpValue → Type 0
IsCanonical v =
    (v.ports.src_port < 2 ^ 16) × (v.ports.dst_port < 2 ^ 16) × (v.ports.dst_port ≢ 0) × (text_len v ≤ 65535)

-- where the checksum is verified, it is filled in, or need not be there
abbrev pub Fills : ChecksumCapabilities → Addresses → Type 0
Fills capabilities addresses = capabilities.udp ≡ Checksum.Rx → IsV4 addresses

-- the format; a value is its own normal form, without exception
abbrev pub format : ChecksumCapabilities → Addresses → Format UdpValue
format capabilities addresses = record {
  Reads = Reads capabilities addresses;
  Fills = Fills capabilities addresses;
  text = packet_text capabilities addresses;
  IsCanonical = IsCanonical;
  IsException = λ v. ⊥;
  norm = λ v. v;
  IsCut = λ v. ⊥;
}

-- The octets after a datagram is written over `old`: it is at the start, and what followed it is kept. Its checksum
-- holds where it is computed, and is not 0. Where there is just the datagram's length, it is all that is left. A
-- canonical value is read back, whatever follows the datagram.
pub record Emits (capabilities : ChecksumCapabilities) (addresses : Addresses) (v : UdpValue) (old new : List ℕ)
    : Type 0 where
  pub written : new ≡ over old (packet_text capabilities addresses v)
  pub sealed : is_computed capabilities.udp ≡ true → IsSealed addresses new
  pub exact : length old ≡ text_len v → new ≡ packet_text capabilities addresses v
  pub reads_back : Fills capabilities addresses → IsCanonical v → Reads capabilities addresses new v
  pub round_trips : RoundTrips (format capabilities addresses) v
