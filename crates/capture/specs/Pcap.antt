-- pcap files: a header, and records one after another (draft-ietf-opsawg-pcap sections 4 and 5).
--
--  0                   1                   2                   3
--  0 1 2 3 4 5 6 7 8 9 0 1 2 3 4 5 6 7 8 9 0 1 2 3 4 5 6 7 8 9 0 1
-- +---------------------------------------------------------------+
-- |                         magic number                          |
-- +-------------------------------+-------------------------------+
-- |     major version             |     minor version             |
-- +-------------------------------+-------------------------------+
-- |                     reserved, eight bytes                     |
-- +---------------------------------------------------------------+
-- |                    most bytes of a packet                     |
-- +-----------------------+-------+-------------------------------+
-- | FCS length, flags     |   0   |       link type               |
-- +-----------------------+-------+-------------------------------+
--
-- +---------------------------------------------------------------+
-- |                            seconds                            |
-- +---------------------------------------------------------------+
-- |                 microseconds or nanoseconds                   |
-- +---------------------------------------------------------------+
-- |                       captured length                         |
-- +---------------------------------------------------------------+
-- |                       original length                         |
-- +---------------------------------------------------------------+
-- |  the packet, as many bytes as the captured length counts
-- +- - - - - - - - - - - - - - - -
use Rattle.std.specs.Prelude.{◌≡◌, ℕ, ◌≢◌, ◌+◌, ◌*◌, ◌%◌, ◌<◌, ◌≤◌, List, [], length, take, Some}
use Rattle.wirebase.specs.Bytes.{Field, field, Reaches, part}
use Rattle.capture.specs.Order.{number_in}
use Rattle.capture.specs.Packet.{PacketValue}
use Rattle.capture.specs.Time.{time_value, fraction_of, digits_in}
use Rattle.capture.specs.Types.{Ending, Order, FileHeader, Precision, RecordHeader}

-- ---- the header of a file

abbrev pub magic_field : Field
magic_field = field 0 4

abbrev pub major_field : Field
major_field = field 4 6

abbrev pub minor_field : Field
minor_field = field 6 8

abbrev pub link_type_field : Field
link_type_field = field 20 24

abbrev pub file_header_len : ℕ
file_header_len = 24

-- the magic number, its highest byte first, of each byte order and precision of times
abbrev pub magic_of : Order → Precision → ℕ
magic_of Order.Big Precision.Micro = 0xa1b2c3d4
magic_of Order.Big Precision.Nano = 0xa1b23c4d
magic_of Order.Little Precision.Micro = 0xd4c3b2a1
magic_of Order.Little Precision.Nano = 0x4d3cb2a1

-- the bytes begin with the magic number of a byte order and a precision
pub record HasMagic (bytes : List ℕ) (order : Order) (precision : Precision) : Type 0 where
  pub there : Reaches magic_field bytes
  pub magic : number_in Order.Big magic_field bytes ≡ magic_of order precision

-- The grammar of a header, of version 2.4; the upper half of the link type tells of the frames' ends.
pub record IsFileHeader (bytes : List ℕ) (h : FileHeader) : Type 0 where
  pub whole : Reaches link_type_field bytes
  pub magic : HasMagic bytes h.order h.precision
  pub major : number_in h.order major_field bytes ≡ 2
  pub minor : number_in h.order minor_field bytes ≡ 4
  pub link_type : h.link_type ≡ number_in h.order link_type_field bytes % 65536

-- what ends a capture whose bytes begin with no header: another magic number, fewer bytes, another version
abbrev pub FileEnds : List ℕ → Ending → Type 0
FileEnds bytes Ending.NotACapture = (order : Order) (precision : Precision) → HasMagic bytes order precision → ⊥
FileEnds bytes Ending.Cut =
    (length bytes < file_header_len) × ((order : Order) × (precision : Precision) × HasMagic bytes order precision)
FileEnds bytes Ending.Version = (file_header_len ≤ length bytes) × ((h : FileHeader) → IsFileHeader bytes h → ⊥)
    × ((order : Order) × (precision : Precision) × HasMagic bytes order precision)
FileEnds bytes _ = ⊥

-- ---- the header of a record

abbrev pub seconds_field : Field
seconds_field = field 0 4

abbrev pub fraction_field : Field
fraction_field = field 4 8

abbrev pub captured_len_field : Field
captured_len_field = field 8 12

abbrev pub original_len_field : Field
original_len_field = field 12 16

abbrev pub record_header_len : ℕ
record_header_len = 16

-- The grammar of a record's header.
pub record IsRecordHeader (order : Order) (bytes : List ℕ) (r : RecordHeader) : Type 0 where
  pub whole : Reaches original_len_field bytes
  pub seconds : r.seconds ≡ number_in order seconds_field bytes
  pub fraction : r.fraction ≡ number_in order fraction_field bytes
  pub captured_len : r.captured_len ≡ number_in order captured_len_field bytes
  pub original_len : r.original_len ≡ number_in order original_len_field bytes

-- The grammar of a record of at most this many bytes, in a file with a header.
pub record IsRecord (most : ℕ) (h : FileHeader) (bytes : List ℕ) (p : PacketValue) : Type 0 where
  pub head : RecordHeader
  pub is_head : IsRecordHeader h.order (take record_header_len bytes) head
  pub whole : length bytes ≡ record_header_len + head.captured_len
  pub few : head.captured_len ≤ most
  pub time_is : p.time ≡ Some (time_value (head.seconds * 1000000000 + fraction_of h.precision head.fraction)
      (digits_in h.precision))
  pub link_type : p.link_type ≡ h.link_type
  pub original_len : p.original_len ≡ head.original_len
  pub octets : p.octets ≡ part bytes record_header_len (record_header_len + head.captured_len)

-- the bytes begin with a whole record of at most this many bytes, by the length that its header tells
pub record ShowsRecord (most : ℕ) (order : Order) (bytes : List ℕ) : Type 0 where
  pub head : Reaches original_len_field bytes
  pub few : number_in order captured_len_field bytes ≤ most
  pub whole : record_header_len + number_in order captured_len_field bytes ≤ length bytes

-- what ends a file that goes on with these bytes, and so with no record of at most this many bytes
pub data RecordEnds (most : ℕ) (h : FileHeader) (bytes : List ℕ) : Ending → Type 0 where
  ends_whole : bytes ≡ [] → RecordEnds most h bytes Ending.Whole
  head_cut : bytes ≢ [] → length bytes < record_header_len → RecordEnds most h bytes Ending.Cut
  cut : (head : RecordHeader) → IsRecordHeader h.order (take record_header_len bytes) head → head.captured_len ≤ most
      → length bytes < record_header_len + head.captured_len → RecordEnds most h bytes Ending.Cut
  large : (head : RecordHeader) → IsRecordHeader h.order (take record_header_len bytes) head → most < head.captured_len
      → RecordEnds most h bytes Ending.TooLarge
