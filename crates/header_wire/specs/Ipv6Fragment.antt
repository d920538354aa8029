-- The fragment header of IPv6 (RFC 8200 section 4.5). The offset counts units of eight octets, and the last bit of its
-- word, M, says that more fragments follow.
--
--  0                   1                   2                   3
--  0 1 2 3 4 5 6 7 8 9 0 1 2 3 4 5 6 7 8 9 0 1 2 3 4 5 6 7 8 9 0 1
-- +---------------+---------------+-------------------------+---+-+
-- |  next header  |   reserved    |     fragment offset     |res|M|
-- +---------------+---------------+-------------------------+---+-+
-- |                        identification                         |
-- +---------------------------------------------------------------+
use Rattle.std.specs.Prelude.{◌≡◌, ◌↔◌, ℕ, ◌+◌, ◌*◌, ◌/◌, ◌%◌, ◌^◌, ◌<◌, ◌≤◌, IsTrue, List, [], ◌∷◌, ◌++◌}
use Rattle.std.specs.Prelude.{length, drop, if◌then◌else◌}
use Rattle.std.specs.Borrow.{Bor}
use Rattle.wirebase.specs.Bytes.{Field, field, over, byte_of, number_of}
use Rattle.wirebase.specs.ByteWriter.{be8, be16, be32, fields}
use Rattle.wirebase.specs.Checks.{Check, Fails, Passes, check}
use Rattle.wirebase.specs.Format.{Format, RoundTrips}
use Rattle.wirebase.specs.Ip.{protocol_number, protocol_of, protocol_rows}
use Rattle.wirebase.specs.Numbered.{IsProper}
use Rattle.wirebase.specs.declared.ip.IpProtocol.{IpProtocol}
use Rattle.header_wire.specs.declared.ipv6_fragment.Header.{Header}
use Rattle.header_wire.specs.declared.ipv6_fragment.Refusal.{Refusal}

-- ---- values

-- a fragment: its header, and its payload
pub record Packet : Type 0 where
  pub header : Header
  pub payload : List ℕ

abbrev pub packet : Header → List ℕ → Packet
packet header payload = record { header = header; payload = payload }

abbrev pub packet_of : Header × Bor (List ℕ) → Packet
packet_of both = packet both.0 both.1.now

-- ---- the text

abbrev pub text_len : ℕ
text_len = 8

-- the offset, two reserved bits that are zero, and M, in one number
abbrev pub offset_number : Header → ℕ
offset_number h = 8 * h.frag_offset + (if h.more_frags then 1 else 0)

abbrev pub header_fields : Header → List (List ℕ)
header_fields h =
    be8 (protocol_number h.next_header) ∷ be8 0 ∷ be16 (offset_number h)
    ∷ be32 h.ident ∷ []

abbrev pub text : Header → List ℕ
text h = fields (header_fields h)

-- ---- the grammar

abbrev pub next_header_field : Field
next_header_field = field 0 1

abbrev pub offset_field : Field
offset_field = field 2 4

abbrev pub ident_field : Field
ident_field = field 4 8

-- the one check: the header is there
abbrev pub checks : List ℕ → List (Check Refusal)
checks bytes = check (8 ≤ length bytes) Refusal.Short ∷ []

-- what the fields say; reserved bits are not looked at
pub record Says (bytes : List ℕ) (h : Header) : Type 0 where
  pub next_header : h.next_header ≡ protocol_of (byte_of next_header_field bytes)
  pub frag_offset : h.frag_offset ≡ number_of offset_field bytes / 8
  pub more_frags : IsTrue h.more_frags ↔ (number_of offset_field bytes % 2 ≡ 1)
  pub ident : h.ident ≡ number_of ident_field bytes

-- The grammar: the bytes pass the check, and are this fragment.
pub record IsPacket (bytes : List ℕ) (p : Packet) : Type 0 where
  pub passes : Passes (checks bytes)
  pub says : Says bytes p.header
  pub payload : p.payload ≡ drop 8 bytes

abbrev pub Refuses : List ℕ → Refusal → Type 0
Refuses bytes why = Fails (checks bytes) why

-- ---- canonical values

-- the requirements on a header and on the octets that it is written into: there is room, and the offset has 13 bits
pub record CanEmit (h : Header) (bytes : List ℕ) : Type 0 where
  pub room : text_len ≤ length bytes
  pub frag_offset : h.frag_offset < 2 ^ 13

-- a fragment that its own text gives back
pub record IsCanonical (p : Packet) : Type 0 where
  pub next_header : IsProper IpProtocol.Unknown protocol_rows p.header.next_header
  pub number : protocol_number p.header.next_header < 2 ^ 8
  pub frag_offset : p.header.frag_offset < 2 ^ 13
  pub ident : p.header.ident < 2 ^ 32

-- the fragment of a header and a payload
abbrev pub packet_text : Packet → List ℕ
packet_text p = text p.header ++ p.payload

-- the format; a value is its own normal form, without exception
abbrev pub format : Format Packet
format = record {
  Reads = IsPacket;
  Fills = Unit {0};
  text = packet_text;
  IsCanonical = IsCanonical;
  IsException = λ p. ⊥;
  norm = λ p. p;
  IsCut = λ p. ⊥;
}

-- What writing a header over `old` leaves: the header, and all that followed it. Before any payload it is read back.
pub record Emits (h : Header) (old new : List ℕ) : Type 0 where
  pub written : new ≡ over old (text h)
  pub exact : length old ≡ text_len → new ≡ text h
  pub round_trips : (payload : List ℕ) → RoundTrips format (packet h payload)
