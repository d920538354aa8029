-- UDP datagrams (RFC 768).
--
--  0                   1                   2                   3
--  0 1 2 3 4 5 6 7 8 9 0 1 2 3 4 5 6 7 8 9 0 1 2 3 4 5 6 7 8 9 0 1
-- +-------------------------------+-------------------------------+
-- |          source port          |       destination port        |
-- +-------------------------------+-------------------------------+
-- |            length             |           checksum            |
-- +-------------------------------+-------------------------------+
-- |  data, up to the length
-- +- - - - - - - - - - - - - - - -
use Rattle.std.specs.Prelude.{◌≡◌, ◌≢◌, ◌≤◌, ◌⊎◌, ◌^◌, ◌==◌, ◌&&◌, Bool, List, ℕ, if◌then◌else◌, length, nat_lt, true}
use Rattle.frame_wire.specs.Words.{Addresses, ChecksumCapabilities, IpProtocol, UdpRepr, bytes_of, field, is_verified}
use Rattle.frame_wire.specs.Words.{number_of}
use Rattle.std.specs.Borrow.{Bor}
use Rattle.wirebase.specs.Bytes.{Field, Reaches}
use Rattle.wirebase.specs.Checksum.{IsGood}
use Rattle.frame_wire.specs.Addresses.{IsV4, sum_before}
use Rattle.frame_wire.specs.declared.udp.UdpPacket.{UdpPacket}

-- ---- the view

-- what a view was made from, and the view made from something else
abbrev pub inner : {T : Type 0} → UdpPacket T → T
inner view = view.buffer

abbrev pub with_inner : {T : Type 0} → UdpPacket T → T → UdpPacket T
with_inner view buffer = record view { buffer = buffer }

abbrev pub view_octets : UdpPacket (Bor (List ℕ)) → List ℕ
view_octets view = (inner view).now

-- the fields
abbrev pub src_port_field : Field
src_port_field = field 0 2

abbrev pub dst_port_field : Field
dst_port_field = field 2 4

abbrev pub len_field : Field
len_field = field 4 6

abbrev pub checksum_field : Field
checksum_field = field 6 8

-- the length field, which counts header and data
abbrev pub len_in : List ℕ → ℕ
len_in bytes = number_of len_field bytes

-- a number of bytes that the length field can't hold, but the length of a jumbogram can
abbrev pub is_jumbo : ℕ → Bool
is_jumbo n = nat_lt 65535 n && nat_lt n (2 ^ 32)

-- The bytes of header and data: a length of 0 among so many bytes means all of them (RFC 2675 section 4).
unfoldable pub end_in : List ℕ → ℕ
end_in bytes = if (len_in bytes == 0) && is_jumbo (length bytes) then length bytes else len_in bytes

abbrev pub whole_field : List ℕ → Field
whole_field bytes = field 0 (end_in bytes)

abbrev pub payload_field : List ℕ → Field
payload_field bytes = field 8 (end_in bytes)

-- the bytes begin with a datagram that its own length calls whole
pub record BeginsWhole (bytes : List ℕ) : Type 0 where
  pub fixed : Reaches checksum_field bytes
  pub order : 8 ≤ end_in bytes
  pub total : end_in bytes ≤ length bytes

-- the datagram at the start of the bytes carries its checksum
abbrev pub IsVerified : Addresses → List ℕ → Type 0
IsVerified addresses bytes =
    IsGood (bytes_of (whole_field bytes) bytes) (sum_before addresses IpProtocol.Udp (end_in bytes))

-- a checksum that holds and is not 0, which means that there is none (RFC 768)
abbrev pub IsSealed : Addresses → List ℕ → Type 0
IsSealed addresses bytes = (number_of checksum_field bytes ≢ 0) × IsVerified addresses bytes

-- a checksum, or over IPv4 none, which IPv6 does not allow (RFC 8200 section 8.1)
abbrev pub HasChecksum : Addresses → List ℕ → Type 0
HasChecksum addresses bytes = ((number_of checksum_field bytes ≡ 0) × IsV4 addresses) ⊎ IsSealed addresses bytes

-- The grammar: the bytes begin with a whole datagram to some port, which has a checksum where that is verified.
pub record IsDatagram (capabilities : ChecksumCapabilities) (addresses : Addresses) (bytes : List ℕ) (r : UdpRepr)
    : Type 0 where
  pub whole : BeginsWhole bytes
  pub source : r.src_port ≡ number_of src_port_field bytes
  pub destination : r.dst_port ≡ number_of dst_port_field bytes
  pub port : r.dst_port ≢ 0
  pub checksum : is_verified capabilities.udp ≡ true → HasChecksum addresses bytes
