-- The header that the extension headers of IPv6 with options have in common (RFC 8200 sections 4.3 and 4.6).
--
-- +---------------+---------------+- - - - - - - - - - - - - - - -
-- |  next header  |    length     | payload: the bytes up to 8 * length + 8
-- +---------------+---------------+- - - - - - - - - - - - - - - -
use Rattle.std.specs.Prelude.{◌≡◌, ℕ, ◌+◌, ◌*◌, ◌≤◌, ◌<◌, List, [], ◌∷◌, length}
use Rattle.std.specs.Borrow.{Bor}
use Rattle.opt_wire.specs.Words.{Field, IpProtocol, Reaches, be8, byte_of, bytes_of, field, fields, over}
use Rattle.opt_wire.specs.Words.{protocol_number, protocol_of}
use Rattle.opt_wire.specs.Ipv6Option.{OptionValue}
use Rattle.opt_wire.specs.Ipv6Hbh as hop_by_hop
use Rattle.opt_wire.specs.declared.ipv6ext_header.Header.{Header}
use Rattle.opt_wire.specs.declared.ipv6ext_header.Repr.{Repr}

-- the buffer of a view, and the view with another buffer
abbrev pub inner : {T : Type 0} → Header T → T
inner view = view.buffer

abbrev pub with_inner : {T : Type 0} → Header T → T → Header T
with_inner view buffer = record view { buffer = buffer }

abbrev pub view_octets : Header (Bor (List ℕ)) → List ℕ
view_octets view = (inner view).now

-- the fields; the length counts units of eight bytes, without the first eight bytes
abbrev pub next_header_field : Field
next_header_field = field 0 1

abbrev pub length_field : Field
length_field = field 1 2

abbrev pub header_end : List ℕ → ℕ
header_end bytes = 8 * byte_of length_field bytes + 8

abbrev pub payload_field : List ℕ → Field
payload_field bytes = field 2 (header_end bytes)

-- the bytes reach the first eight, and the end of the payload
abbrev pub IsWhole : List ℕ → Type 0
IsWhole bytes = (8 ≤ length bytes) × Reaches (payload_field bytes) bytes

-- a header by its content
pub record HeaderValue : Type 0 where
  pub next_header : IpProtocol
  pub count : ℕ
  pub payload : List ℕ

abbrev pub value_of : Repr → HeaderValue
value_of repr = record { next_header = repr.next_header; count = repr.length; payload = repr.«data».now }

-- The grammar: the bytes begin with a whole header.
pub record IsHeader (bytes : List ℕ) (header : HeaderValue) : Type 0 where
  pub whole : IsWhole bytes
  pub next_header : header.next_header ≡ protocol_of (byte_of next_header_field bytes)
  pub count_is : header.count ≡ byte_of length_field bytes
  pub payload : header.payload ≡ bytes_of (payload_field bytes) bytes

-- the text that is written: the first two bytes alone
abbrev pub header_fields : HeaderValue → List (List ℕ)
header_fields header = be8 (protocol_number header.next_header) ∷ be8 header.count ∷ []

abbrev pub text : HeaderValue → List ℕ
text header = fields (header_fields header)

-- What writing over `old` leaves.
pub record Emits (header : HeaderValue) (old new : List ℕ) : Type 0 where
  pub written : new ≡ over old (text header)
  pub exact : length old ≡ 2 → new ≡ text header

-- After a next header and a length, options of a hop-by-hop header that take as many bytes as the length counts are
-- read as the payload, and that payload as their normal form, where at most a given number of options are kept.
abbrev pub CarriesOptions : ℕ → Type 0
CarriesOptions most =
    (n count : ℕ) (options : List OptionValue) → n < 256 → count < 256
    → hop_by_hop.IsCanonical most options → length (hop_by_hop.text options) ≡ 8 * count + 6
    → IsHeader (n ∷ count ∷ hop_by_hop.text options)
    (record { next_header = protocol_of n; count = count; payload = hop_by_hop.text options })
    × hop_by_hop.IsHeader most (hop_by_hop.text options) (hop_by_hop.norm options)
