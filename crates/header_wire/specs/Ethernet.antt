-- The header of a frame of Ethernet (RFC 894): the addresses, six octets each, and the EtherType.
--
--  0                   1                   2                   3
--  0 1 2 3 4 5 6 7 8 9 0 1 2 3 4 5 6 7 8 9 0 1 2 3 4 5 6 7 8 9 0 1
-- +---------------------------------------------------------------+
-- |                      destination address                      |
-- |                               +-------------------------------+
-- |                               |        source address         |
-- +-------------------------------+                               |
-- |                                                               |
-- +-------------------------------+-------------------------------+
-- |           EtherType           |
-- +-------------------------------+
use Rattle.std.specs.Prelude.{◌≡◌, ℕ, ◌%◌, ◌^◌, ◌<◌, ◌≤◌, List, [], ◌∷◌, ◌++◌, length, drop, slice_index}
use Rattle.std.specs.Borrow.{Bor}
use Rattle.wirebase.specs.Bytes.{Field, field, over, bytes_of, number_of}
use Rattle.wirebase.specs.ByteWriter.{be16, fields}
use Rattle.wirebase.specs.Checks.{Check, Fails, Passes, check}
use Rattle.wirebase.specs.Ethernet.{Ethernet, octets_of}
use Rattle.wirebase.specs.Format.{Format, RoundTrips}
use Rattle.wirebase.specs.HardwareAddress.{ethernet_of}
use Rattle.wirebase.specs.Ipv4.{octets_of as octets_v4}
use Rattle.wirebase.specs.Ipv6Address.{octets_of as octets_v6}
use Rattle.wirebase.specs.declared.ipv4.Ipv4Address.{Ipv4Address}
use Rattle.wirebase.specs.declared.ipv6.address.Ipv6Address.{Ipv6Address}
use Rattle.header_wire.specs.declared.ethernet.Header.{Header}
use Rattle.header_wire.specs.declared.ethernet.Refusal.{Refusal}

-- ---- values

-- a header by its content
pub record Value : Type 0 where
  pub src_addr : Ethernet
  pub dst_addr : Ethernet
  pub ether_type : ℕ

abbrev pub value_of : Header → Value
value_of h = record {
  src_addr = ethernet_of h.src_addr;
  dst_addr = ethernet_of h.dst_addr;
  ether_type = h.ether_type;
}

-- a frame: its header, and its payload
pub record Frame : Type 0 where
  pub header : Value
  pub payload : List ℕ

abbrev pub frame : Value → List ℕ → Frame
frame header payload = record { header = header; payload = payload }

abbrev pub frame_of : Header × Bor (List ℕ) → Frame
frame_of both = frame (value_of both.0) both.1.now

-- ---- the text

abbrev pub text_len : ℕ
text_len = 14

abbrev pub header_fields : Value → List (List ℕ)
header_fields v = octets_of v.dst_addr ∷ octets_of v.src_addr ∷ be16 v.ether_type ∷ []

abbrev pub text : Value → List ℕ
text v = fields (header_fields v)

-- ---- the grammar

abbrev pub dst_addr_field : Field
dst_addr_field = field 0 6

abbrev pub src_addr_field : Field
src_addr_field = field 6 12

abbrev pub ether_type_field : Field
ether_type_field = field 12 14

-- the one check: the header is there
abbrev pub checks : List ℕ → List (Check Refusal)
checks bytes = check (14 ≤ length bytes) Refusal.Short ∷ []

-- what the fields say
pub record Says (bytes : List ℕ) (v : Value) : Type 0 where
  pub src_addr : octets_of v.src_addr ≡ bytes_of src_addr_field bytes
  pub dst_addr : octets_of v.dst_addr ≡ bytes_of dst_addr_field bytes
  pub ether_type : v.ether_type ≡ number_of ether_type_field bytes

-- The grammar: the bytes pass the check, and are this frame.
pub record IsFrame (bytes : List ℕ) (f : Frame) : Type 0 where
  pub passes : Passes (checks bytes)
  pub says : Says bytes f.header
  pub payload : f.payload ≡ drop 14 bytes

abbrev pub Refuses : List ℕ → Refusal → Type 0
Refuses bytes why = Fails (checks bytes) why

-- ---- canonical values

-- a frame that its own text gives back
abbrev pub IsCanonical : Frame → Type 0
IsCanonical f = f.header.ether_type < 2 ^ 16

-- the frame of a header and a payload
abbrev pub frame_text : Frame → List ℕ
frame_text f = text f.header ++ f.payload

-- the format; a value is its own normal form, without exception
abbrev pub format : Format Frame
format = record {
  Reads = IsFrame;
  Fills = Unit {0};
  text = frame_text;
  IsCanonical = IsCanonical;
  IsException = λ f. ⊥;
  norm = λ f. f;
  IsCut = λ f. ⊥;
}

-- What writing a header over `old` leaves: the header, and all that followed it. Before any payload it is read back.
pub record Emits (v : Value) (old new : List ℕ) : Type 0 where
  pub written : new ≡ over old (text v)
  pub exact : length old ≡ text_len → new ≡ text v
  pub round_trips : (payload : List ℕ) → RoundTrips format (frame v payload)

-- ---- groups

-- the hardware address of a group of IPv4: the lower 23 bits of its address behind 01:00:5e and a bit that is zero (RFC
-- 1112 section 6.4)
abbrev pub group_octets_v4 : Ipv4Address → List ℕ
group_octets_v4 group =
    0x01 ∷ 0x00 ∷ 0x5e ∷ (slice_index (octets_v4 group) 1 % 128) ∷ slice_index (octets_v4 group) 2
    ∷ slice_index (octets_v4 group) 3 ∷ []

-- the hardware address of a group of IPv6: the last four of its sixteen octets behind 33:33 (RFC 2464 section 7)
abbrev pub group_octets_v6 : Ipv6Address → List ℕ
group_octets_v6 group =
    0x33 ∷ 0x33 ∷ slice_index (octets_v6 group) 12 ∷ slice_index (octets_v6 group) 13
    ∷ slice_index (octets_v6 group) 14
    ∷ slice_index (octets_v6 group) 15 ∷ []
