-- Requests about an interface and their answers (RFC 8335 sections 2 and 3): messages of ICMPv4 and of ICMPv6, which
-- have types of their own. An extension structure follows the fields of a request.
--
--  0                   1                   2                   3
--  0 1 2 3 4 5 6 7 8 9 0 1 2 3 4 5 6 7 8 9 0 1 2 3 4 5 6 7 8 9 0 1
-- +---------------+---------------+-------------------------------+
-- |     type      |     code      |           checksum            |
-- +---------------+---------------+---------------+-------------+-+
-- |          identifier           |sequence number|  reserved   |L|  a request
-- +-------------------------------+---------------+-----+---+-+-+-+
-- |          identifier           |sequence number|state|res|A|4|6|  its reply
-- +-------------------------------+---------------+-----+---+-+-+-+
use Rattle.std.specs.Prelude.{◌≡◌, ◌↔◌, ℕ, ◌+◌, ◌*◌, ◌/◌, ◌%◌, ◌^◌, ◌<◌, if◌then◌else◌, Bool, IsTrue, List, [], ◌∷◌}
use Rattle.std.specs.Prelude.{drop, slice_index}
use Rattle.wirebase.specs.Bytes.{byte_of, number_of}
use Rattle.wirebase.specs.ByteWriter.{be8, be16}
use Rattle.wirebase.specs.Icmp.{code_field, ident_field}
use Rattle.header_wire.specs.declared.extended_echo.ExtendedEchoReply.{ExtendedEchoReply}
use Rattle.header_wire.specs.declared.extended_echo.ExtendedEchoRequest.{ExtendedEchoRequest}

-- ---- values

-- a request by its content: the structure is its data
pub record Request : Type 0 where
  pub ident : ℕ
  pub seq_no : ℕ
  pub local : Bool
  pub structure : List ℕ

abbrev pub request_of : ExtendedEchoRequest → Request
request_of r = record { ident = r.ident; seq_no = r.seq_no; local = r.local; structure = r.«data».now }

-- ---- the text behind the checksum

-- a flag in its place
abbrev pub bit : Bool → ℕ → ℕ
bit flag value = if flag then value else 0

-- the state and the flags of a reply, with zeros in the reserved bits
abbrev pub flags_number : ExtendedEchoReply → ℕ
flags_number r = 32 * r.state + bit r.active 4 + bit r.ipv4 2 + bit r.ipv6 1

abbrev pub request_fields : Request → List (List ℕ)
request_fields r = be16 r.ident ∷ be8 r.seq_no ∷ be8 (bit r.local 1) ∷ r.structure ∷ []

abbrev pub reply_fields : ExtendedEchoReply → List (List ℕ)
reply_fields r = be16 r.ident ∷ be8 r.seq_no ∷ be8 (flags_number r) ∷ []

-- ---- the grammar; reserved bits are not looked at

pub record IsExtendedRequest (bytes : List ℕ) (r : Request) : Type 0 where
  pub ident : r.ident ≡ number_of ident_field bytes
  pub seq_no : r.seq_no ≡ slice_index bytes 6
  pub local : IsTrue r.local ↔ (slice_index bytes 7 % 2 ≡ 1)
  pub structure : r.structure ≡ drop 8 bytes

pub record IsExtendedReply (bytes : List ℕ) (r : ExtendedEchoReply) : Type 0 where
  pub code : r.code ≡ byte_of code_field bytes
  pub ident : r.ident ≡ number_of ident_field bytes
  pub seq_no : r.seq_no ≡ slice_index bytes 6
  pub state : r.state ≡ slice_index bytes 7 / 32
  pub active : IsTrue r.active ↔ (slice_index bytes 7 / 4 % 2 ≡ 1)
  pub ipv4 : IsTrue r.ipv4 ↔ (slice_index bytes 7 / 2 % 2 ≡ 1)
  pub ipv6 : IsTrue r.ipv6 ↔ (slice_index bytes 7 % 2 ≡ 1)

-- ---- canonical values: numbers that fit their fields

abbrev pub RequestFits : Request → Type 0
RequestFits r = (r.ident < 2 ^ 16) × (r.seq_no < 2 ^ 8)

abbrev pub ReplyFits : ExtendedEchoReply → Type 0
ReplyFits r = (r.code < 2 ^ 8) × (r.ident < 2 ^ 16) × (r.seq_no < 2 ^ 8) × (r.state < 8)
