-- The header of IPv4 with its options (RFC 791 section 3.1), whose picture and fields are those of Ipv4 in wirebase.
-- The type of service is one octet, the service (RFC 2474, RFC 3168), and the fragment offset counts units of eight
-- octets.
use Rattle.std.specs.Prelude.{◌≡◌, ◌↔◌, ℕ, ◌+◌, ◌/◌, ◌%◌, ◌^◌, ◌<◌, ◌≤◌, Bool, IsTrue, List, [], ◌∷◌, ◌++◌}
use Rattle.std.specs.Prelude.{length, if◌then◌else◌}
use Rattle.std.specs.Borrow.{Bor}
use Rattle.wirebase.specs.Bytes.{Field, field, part, over, byte_of, bytes_of, number_of}
use Rattle.wirebase.specs.ByteWriter.{be8, be16, fields}
use Rattle.wirebase.specs.Checks.{Check, Fails, Passes, check}
use Rattle.wirebase.specs.Checksum.{IsGood, sealed}
use Rattle.wirebase.specs.Format.{Format, RoundTrips}
use Rattle.wirebase.specs.Ip.{protocol_number, protocol_of, protocol_rows}
use Rattle.wirebase.specs.Ipv4.{octets_of, ident_field, fragment_field, time_to_live_field, protocol_field}
use Rattle.wirebase.specs.Ipv4.{checksum_field, src_addr_field, dst_addr_field, version_in, header_len_in, total_len_in}
use Rattle.wirebase.specs.Ipv4.{header_field, payload_field, dont_frag_in, more_frags_in}
use Rattle.wirebase.specs.Numbered.{IsProper}
use Rattle.wirebase.specs.declared.ip.IpProtocol.{IpProtocol}
use Rattle.wirebase.specs.declared.ipv4.Ipv4Address.{Ipv4Address}
use Rattle.header_wire.specs.declared.ipv4.Header.{Header}
use Rattle.header_wire.specs.declared.ipv4.Refusal.{Refusal}

-- ---- values

-- a header by its content
pub record Value : Type 0 where
  pub service : ℕ
  pub ident : ℕ
  pub dont_frag : Bool
  pub more_frags : Bool
  pub frag_offset : ℕ
  pub hop_limit : ℕ
  pub protocol : IpProtocol
  pub src_addr : Ipv4Address
  pub dst_addr : Ipv4Address
  pub options : List ℕ
  pub payload_len : ℕ

abbrev pub value_of : Header → Value
value_of h = record {
  service = h.service;
  ident = h.ident;
  dont_frag = h.dont_frag;
  more_frags = h.more_frags;
  frag_offset = h.frag_offset;
  hop_limit = h.hop_limit;
  protocol = h.protocol;
  src_addr = h.src_addr;
  dst_addr = h.dst_addr;
  options = h.options.now;
  payload_len = h.payload_len;
}

-- a packet: its header, and its payload
pub record Packet : Type 0 where
  pub header : Value
  pub payload : List ℕ

abbrev pub packet : Value → List ℕ → Packet
packet header payload = record { header = header; payload = payload }

abbrev pub packet_of : Header × Bor (List ℕ) → Packet
packet_of both = packet (value_of both.0) both.1.now

-- ---- the text

-- the flags before the fragment offset, and these three in one number: the first flag is reserved and zero
abbrev pub flags_number : Bool → Bool → ℕ
flags_number dont_frag more_frags = (if dont_frag then 0x4000 else 0) + (if more_frags then 0x2000 else 0)

abbrev pub fragment_number : Value → ℕ
fragment_number v = flags_number v.dont_frag v.more_frags + v.frag_offset

-- the bytes of the header, and those of header and payload
abbrev pub text_len : Value → ℕ
text_len v = 20 + length v.options

abbrev pub total_len : Value → ℕ
total_len v = text_len v + v.payload_len

-- the fields, with a checksum of zero; the upper half of the first byte is the version, and the lower half counts the
-- words of the header
abbrev pub header_fields : Value → List (List ℕ)
header_fields v =
    be8 (0x45 + length v.options / 4) ∷ be8 v.service ∷ be16 (total_len v)
    ∷ be16 v.ident ∷ be16 (fragment_number v)
    ∷ be8 v.hop_limit ∷ be8 (protocol_number v.protocol) ∷ be16 0
    ∷ octets_of v.src_addr
    ∷ octets_of v.dst_addr
    ∷ v.options ∷ []

abbrev pub text : Value → List ℕ
text v = fields (header_fields v)

-- with its checksum, the sum of the header alone
abbrev pub header_text : Value → List ℕ
header_text v = sealed checksum_field (text v) 0

-- ---- the grammar

-- The checks, in their order: the fixed header is there; the version; the header has its fixed part or more, and is
-- there; the packet has its header or more, and is there; and the checksum of the header.
abbrev pub checks : List ℕ → List (Check Refusal)
checks bytes =
    check (20 ≤ length bytes) Refusal.Short
    ∷ check (version_in bytes ≡ 4) (Refusal.Version (version_in bytes))
    ∷ check (20 ≤ header_len_in bytes) (Refusal.HeaderLen (header_len_in bytes))
    ∷ check (header_len_in bytes ≤ length bytes) (Refusal.HeaderCut (header_len_in bytes))
    ∷ check (header_len_in bytes ≤ total_len_in bytes) (Refusal.TotalLen (total_len_in bytes))
    ∷ check (total_len_in bytes ≤ length bytes) (Refusal.Cut (total_len_in bytes))
    ∷ check (IsGood (bytes_of (header_field bytes) bytes) 0) Refusal.Checksum
    ∷ []

-- the place of the options
abbrev pub options_field : List ℕ → Field
options_field bytes = field 20 (header_len_in bytes)

-- what the fields say; the reserved flag is not looked at
pub record Says (bytes : List ℕ) (v : Value) : Type 0 where
  pub service : v.service ≡ byte_of (field 1 2) bytes
  pub ident : v.ident ≡ number_of ident_field bytes
  pub dont_frag : IsTrue v.dont_frag ↔ (dont_frag_in bytes ≡ 1)
  pub more_frags : IsTrue v.more_frags ↔ (more_frags_in bytes ≡ 1)
  pub frag_offset : v.frag_offset ≡ number_of fragment_field bytes % 0x2000
  pub hop_limit : v.hop_limit ≡ byte_of time_to_live_field bytes
  pub protocol : v.protocol ≡ protocol_of (byte_of protocol_field bytes)
  pub src_addr : octets_of v.src_addr ≡ bytes_of src_addr_field bytes
  pub dst_addr : octets_of v.dst_addr ≡ bytes_of dst_addr_field bytes
  pub options : v.options ≡ bytes_of (options_field bytes) bytes
  pub payload_len : header_len_in bytes + v.payload_len ≡ total_len_in bytes

-- The grammar: the bytes pass the checks, and begin with this packet; what follows it is ignored.
pub record IsPacket (bytes : List ℕ) (p : Packet) : Type 0 where
  pub passes : Passes (checks bytes)
  pub says : Says bytes p.header
  pub payload : p.payload ≡ bytes_of (payload_field bytes) bytes

abbrev pub Refuses : List ℕ → Refusal → Type 0
Refuses bytes why = Fails (checks bytes) why

-- ---- canonical values

-- options fill words, at most ten of them
abbrev pub AreOptions : List ℕ → Type 0
AreOptions options = (length options % 4 ≡ 0) × (length options ≤ 40)

-- The requirements on a header and on the octets that it is written into: there is room; the options fill words, the
-- fragment offset has 13 bits, and the packet at most 65,535 bytes.
pub record CanEmit (v : Value) (bytes : List ℕ) : Type 0 where
  pub room : text_len v ≤ length bytes
  pub options : AreOptions v.options
  pub frag_offset : v.frag_offset < 2 ^ 13
  pub total : total_len v < 2 ^ 16

-- a packet that its own text gives back
pub record IsCanonical (p : Packet) : Type 0 where
  pub service : p.header.service < 2 ^ 8
  pub ident : p.header.ident < 2 ^ 16
  pub frag_offset : p.header.frag_offset < 2 ^ 13
  pub hop_limit : p.header.hop_limit < 2 ^ 8
  pub protocol : IsProper IpProtocol.Unknown protocol_rows p.header.protocol
  pub number : protocol_number p.header.protocol < 2 ^ 8
  pub options : AreOptions p.header.options
  pub payload : length p.payload ≡ p.header.payload_len
  pub total : total_len p.header < 2 ^ 16

-- the packet of a header and a payload
abbrev pub packet_text : Packet → List ℕ
packet_text p = header_text p.header ++ p.payload

-- the format; a value is its own normal form, without exception
abbrev pub format : Format Packet
format = record {
  Reads = IsPacket;
  Fills = Unit {0};
  text = packet_text;
  IsCanonical = IsCanonical;
  IsException = λ p. ⊥;
  norm = λ p. p;
  IsCut = λ p. ⊥;
}

-- What writing a header over `old` leaves: the header, with the checksum of itself alone, and all that followed it.
-- Before any payload of its length, it is read back.
pub record Emits (v : Value) (old new : List ℕ) : Type 0 where
  pub written : new ≡ over old (header_text v)
  pub good : IsGood (part new 0 (text_len v)) 0
  pub exact : length old ≡ text_len v → new ≡ header_text v
  pub round_trips : (payload : List ℕ) → RoundTrips format (packet v payload)
