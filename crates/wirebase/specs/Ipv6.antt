-- The IPv6 header (RFC 8200 section 3), and the pseudo header of checksums (RFC 8200 section 8.1).
--
--  0                   1                   2                   3
--  0 1 2 3 4 5 6 7 8 9 0 1 2 3 4 5 6 7 8 9 0 1 2 3 4 5 6 7 8 9 0 1
-- +-------+---------------+---------------------------------------+
-- |version| traffic class |              flow label               |
-- +-------+---------------+-------+---------------+---------------+
-- |        payload length         |  next header  |   hop limit   |
-- +-------------------------------+---------------+---------------+
-- |                                                               |
-- |                  source address, 16 bytes                     |
-- |                                                               |
-- +---------------------------------------------------------------+
-- |                                                               |
-- |                destination address, 16 bytes                  |
-- |                                                               |
-- +---------------------------------------------------------------+
use Rattle.std.specs.Prelude.{◌≡◌, ◌≢◌, ℕ, ◌+◌, ◌/◌, ◌<◌, ◌≤◌, List, [], ◌∷◌, ◌++◌, codes, decimal, length}
use Rattle.std.specs.Borrow.{Bor}
use Rattle.wirebase.specs.Bytes.{Field, field, Reaches, bytes_of, byte_of, number_of}
use Rattle.wirebase.specs.ByteWriter.{be8, be16, be32, fields}
use Rattle.wirebase.specs.Checksum.{word_sum}
use Rattle.wirebase.specs.Ip.{protocol_number, protocol_of}
use Rattle.wirebase.specs.Ipv6Address.{octets_of, address_text}
use Rattle.wirebase.specs.declared.ip.IpProtocol.{IpProtocol}
use Rattle.wirebase.specs.declared.ipv6.address.Ipv6Address.{Ipv6Address}
use Rattle.wirebase.specs.declared.ipv6.refusal.Ipv6Refusal.{Ipv6Refusal}
use Rattle.wirebase.specs.declared.ipv6.refusal.Ipv6Refusal.TheVariants.{Short, Cut, Version}
use Rattle.wirebase.specs.declared.ipv6.Ipv6Packet.{Ipv6Packet}
use Rattle.wirebase.specs.declared.ipv6.Ipv6Repr.{Ipv6Repr}

-- ---- the view

-- the buffer of a view, and the view with another buffer
abbrev pub inner : {T : Type 0} → Ipv6Packet T → T
inner view = view.buffer

abbrev pub with_inner : {T : Type 0} → Ipv6Packet T → T → Ipv6Packet T
with_inner view buffer = record view { buffer = buffer }

abbrev pub view_octets : Ipv6Packet (Bor (List ℕ)) → List ℕ
view_octets view = (inner view).now

-- the fields
abbrev pub version_field : Field
version_field = field 0 1

abbrev pub payload_len_field : Field
payload_len_field = field 4 6

abbrev pub next_header_field : Field
next_header_field = field 6 7

abbrev pub hop_limit_field : Field
hop_limit_field = field 7 8

abbrev pub src_addr_field : Field
src_addr_field = field 8 24

abbrev pub dst_addr_field : Field
dst_addr_field = field 24 40

-- the version, which is the upper half of its byte
abbrev pub version_in : List ℕ → ℕ
version_in bytes = byte_of version_field bytes / 16

-- the bytes of the payload, and their place
abbrev pub payload_len_in : List ℕ → ℕ
payload_len_in bytes = number_of payload_len_field bytes

abbrev pub payload_field : List ℕ → Field
payload_field bytes = field 40 (40 + payload_len_in bytes)

-- the bytes begin with a packet that its own length calls whole; the version is not checked
pub record BeginsWhole (bytes : List ℕ) : Type 0 where
  pub fixed : Reaches dst_addr_field bytes
  pub total : Reaches (payload_field bytes) bytes

-- ---- the header

-- the bytes begin with a header of these fields; neither the version is checked nor whether the payload is there
pub record IsHeader (bytes : List ℕ) (r : Ipv6Repr) : Type 0 where
  pub payload : r.payload_len ≡ payload_len_in bytes
  pub protocol : r.next_header ≡ protocol_of (byte_of next_header_field bytes)
  pub hops : r.hop_limit ≡ byte_of hop_limit_field bytes
  pub source : octets_of r.src_addr ≡ bytes_of src_addr_field bytes
  pub destination : octets_of r.dst_addr ≡ bytes_of dst_addr_field bytes

-- The grammar: the bytes begin with a whole packet of version 6 and this header.
pub record IsPacket (bytes : List ℕ) (r : Ipv6Repr) : Type 0 where
  pub whole : BeginsWhole bytes
  pub version : version_in bytes ≡ 6
  pub header : IsHeader bytes r

-- the bytes begin with some packet
abbrev pub IsRead : List ℕ → Type 0
IsRead bytes = BeginsWhole bytes × (version_in bytes ≡ 6)

-- why other bytes are not a packet: the first check that fails
abbrev pub Refuses : List ℕ → Ipv6Refusal → Type 0
Refuses bytes Short = length bytes < 40
Refuses bytes Cut = (40 ≤ length bytes) × (length bytes < 40 + payload_len_in bytes)
Refuses bytes (Version n) = BeginsWhole bytes × (n ≡ version_in bytes) × (n ≢ 6)

abbrev pub refusal_display : Ipv6Refusal → List ℕ
refusal_display Short = codes "fewer than 40 bytes"
refusal_display Cut = codes "the payload is cut"
refusal_display (Version n) = codes "version " ++ decimal n ++ codes ", not 6"

-- the fields that are written: version 6, no traffic class and no flow label
unfoldable pub header_fields : Ipv6Repr → List (List ℕ)
header_fields r =
    be32 0x60000000
    ∷ be16 r.payload_len ∷ be8 (protocol_number r.next_header) ∷ be8 r.hop_limit
    ∷ octets_of r.src_addr
    ∷ octets_of r.dst_addr ∷ []

unfoldable pub header_text : Ipv6Repr → List ℕ
header_text r = fields (header_fields r)

-- the printed text of a header
abbrev pub header_display : Ipv6Repr → List ℕ
header_display r =
    codes "IPv6 src=" ++ address_text r.src_addr ++ codes " dst=" ++ address_text r.dst_addr
    ++ codes " nxt_hdr=" ++ decimal (protocol_number r.next_header) ++ codes " hop_limit=" ++ decimal r.hop_limit

-- ---- the pseudo header

-- what a checksum counts before a payload of a given number of bytes: the addresses, the bytes of the payload, and its
-- protocol
unfoldable pub pseudo_fields : Ipv6Address → Ipv6Address → IpProtocol → ℕ → List (List ℕ)
pseudo_fields source destination protocol bytes =
    octets_of source ∷ octets_of destination ∷ be32 bytes ∷ (0 ∷ 0 ∷ 0 ∷ []) ∷ be8 (protocol_number protocol) ∷ []

unfoldable pub pseudo_sum : Ipv6Address → Ipv6Address → IpProtocol → ℕ → ℕ
pseudo_sum source destination protocol bytes = word_sum (fields (pseudo_fields source destination protocol bytes))
