-- Segments of TCP (RFC 9293 section 3.1).
--
--  0                   1                   2                   3
--  0 1 2 3 4 5 6 7 8 9 0 1 2 3 4 5 6 7 8 9 0 1 2 3 4 5 6 7 8 9 0 1
-- +-------------------------------+-------------------------------+
-- |          source port          |       destination port        |
-- +-------------------------------+-------------------------------+
-- |                        sequence number                        |
-- +---------------------------------------------------------------+
-- |                     acknowledgment number                     |
-- +-------+-------+---------------+-------------------------------+
-- |offset |  rsv  |     flags     |            window             |
-- +-------+-------+---------------+-------------------------------+
-- |           checksum            |        urgent pointer         |
-- +-------------------------------+-------------------------------+
-- |  options, up to the data offset
-- +- - - - - - - - - - - - - - - -
-- |  data
-- +- - - - - - - - - - - - - - - -
use Rattle.std.specs.Prelude.{◌≡◌, ◌*◌, ◌/◌, ◌^◌, ◌<◌, ◌≤◌, List, ℕ, drop, length}
use Rattle.frame_wire.specs.Words.{Addresses, IpProtocol, field, number_of}
use Rattle.frame_wire.specs.Addresses.{sum_before}
use Rattle.wirebase.specs.Bytes.{Field, byte_of}
use Rattle.wirebase.specs.Checksum.{IsGood}
use Rattle.frame_wire.specs.declared.tcp.Refusal.{Refusal}
use Rattle.frame_wire.specs.declared.tcp.TcpSegment.{TcpSegment}

-- a segment by its content
pub record SegmentValue : Type 0 where
  pub src_port : ℕ
  pub dst_port : ℕ
  pub payload : List ℕ

abbrev pub value_of : TcpSegment → SegmentValue
value_of s = record { src_port = s.src_port; dst_port = s.dst_port; payload = s.payload.now }

-- the fields that are read; the data offset is the upper half of its byte
abbrev pub src_port_field : Field
src_port_field = field 0 2

abbrev pub dst_port_field : Field
dst_port_field = field 2 4

abbrev pub data_offset_field : Field
data_offset_field = field 12 13

-- the bytes of the header with its options: the data offset counts four bytes each
abbrev pub header_len_in : List ℕ → ℕ
header_len_in bytes = 4 * (byte_of data_offset_field bytes / 16)

-- the bytes begin with a whole header
pub record HasHeader (bytes : List ℕ) : Type 0 where
  pub fixed : 20 ≤ length bytes
  pub least : 20 ≤ header_len_in bytes
  pub whole : header_len_in bytes ≤ length bytes

-- The grammar: the bytes are a segment, since TCP has no length of its own. Its checksum is not looked at.
pub record IsSegment (bytes : List ℕ) (v : SegmentValue) : Type 0 where
  pub header : HasHeader bytes
  pub source : v.src_port ≡ number_of src_port_field bytes
  pub destination : v.dst_port ≡ number_of dst_port_field bytes
  pub payload : v.payload ≡ drop (header_len_in bytes) bytes

-- the refusal of other bytes: the check that fails first
abbrev pub Refuses : List ℕ → Refusal → Type 0
Refuses bytes Refusal.Short = length bytes < 20
Refuses bytes (Refusal.HeaderLen n) = (20 ≤ length bytes) × (header_len_in bytes ≡ n) × (n < 20)
Refuses bytes (Refusal.Cut n) = (20 ≤ length bytes) × (header_len_in bytes ≡ n) × (20 ≤ n) × (length bytes < n)

-- The bytes carry their checksum, with the pseudo header of these addresses and the number of the bytes, which it has
-- in at most four bytes (RFC 9293 section 3.1).
abbrev pub IsSealed : Addresses → List ℕ → Type 0
IsSealed addresses bytes =
    (length bytes < 2 ^ 32) × IsGood bytes (sum_before addresses IpProtocol.Tcp (length bytes))
