-- Messages of ICMPv4 beside echoes and errors. All begin alike; timestamps (RFC 792) and address masks (RFC 950) go on
-- as this picture shows, and a solicitation of routers (RFC 1256 section 3) has four reserved bytes.
--
--  0                   1                   2                   3
--  0 1 2 3 4 5 6 7 8 9 0 1 2 3 4 5 6 7 8 9 0 1 2 3 4 5 6 7 8 9 0 1
-- +---------------+---------------+-------------------------------+
-- |     type      |     code      |           checksum            |
-- +---------------+---------------+-------------------------------+
-- |          identifier           |        sequence number        |
-- +-------------------------------+-------------------------------+
-- |           originate timestamp, or the address mask            |
-- +---------------------------------------------------------------+
-- |                       receive timestamp                       |
-- +---------------------------------------------------------------+
-- |                      transmit timestamp                       |
-- +---------------------------------------------------------------+
--
-- An advertisement of routers (RFC 1256 section 3), behind the checksum; its entries follow:
--
-- +---------------+---------------+-------------------------------+
-- |number of addrs| words of each |       lifetime in seconds     |
-- +---------------+---------------+-------------------------------+
--
-- Extended requests and their replies are those of ExtendedEcho.antt.
use Rattle.std.specs.Prelude.{◌≡◌, ℕ, ◌+◌, ◌*◌, ◌^◌, ◌<◌, ◌≤◌, ◌==◌, if◌then◌else◌, List, [], ◌∷◌, ◌++◌, length}
use Rattle.std.specs.Prelude.{slice_index, Option, Some, None}
use Rattle.wirebase.specs.Bytes.{field, over, bytes_of, number_of}
use Rattle.wirebase.specs.ByteWriter.{be8, be16, be32, fields}
use Rattle.wirebase.specs.Checks.{Check, Fails, Passes, check}
use Rattle.wirebase.specs.Checksum.{IsGood, sealed}
use Rattle.wirebase.specs.Format.{Format, RoundTrips}
use Rattle.wirebase.specs.Icmp.{checksum_field, ident_field, seq_no_field}
use Rattle.wirebase.specs.Ipv4.{octets_of}
use Rattle.header_wire.specs.declared.icmpv4.AddressMask.{AddressMask}
use Rattle.header_wire.specs.declared.extended_echo.ExtendedEchoReply.{ExtendedEchoReply}
use Rattle.header_wire.specs.declared.icmpv4.Kind.{Kind}
use Rattle.header_wire.specs.declared.icmpv4.Message.{Message}
use Rattle.header_wire.specs.declared.icmpv4.Refusal.{Refusal}
use Rattle.header_wire.specs.declared.icmpv4.RouterAdvertisement.{RouterAdvertisement}
use Rattle.header_wire.specs.declared.icmpv4.Timestamp.{Timestamp}
use Rattle.header_wire.specs.ExtendedEcho.{Request, request_of, request_fields, reply_fields, IsExtendedRequest}
use Rattle.header_wire.specs.ExtendedEcho.{IsExtendedReply, RequestFits, ReplyFits}
use Rattle.header_wire.specs.Routers.{count_in, words_in, octets_in}

-- ---- types

abbrev pub kind_number : Kind → ℕ
kind_number Kind.Timestamp = 13
kind_number Kind.TimestampReply = 14
kind_number Kind.AddressMaskRequest = 17
kind_number Kind.AddressMaskReply = 18
kind_number Kind.RouterSolicitation = 10
kind_number Kind.RouterAdvertisement = 9
kind_number Kind.ExtendedEchoRequest = 42
kind_number Kind.ExtendedEchoReply = 43

abbrev pub kind_of : ℕ → Option Kind
kind_of t =
    if t == 13 then Some Kind.Timestamp else if t == 14 then Some Kind.TimestampReply
    else if t == 17 then Some Kind.AddressMaskRequest else if t == 18 then Some Kind.AddressMaskReply
    else if t == 10 then Some Kind.RouterSolicitation else if t == 9 then Some Kind.RouterAdvertisement
    else if t == 42 then Some Kind.ExtendedEchoRequest else if t == 43 then Some Kind.ExtendedEchoReply else None

-- the kind of message in some bytes
abbrev pub kind_in : List ℕ → Option Kind
kind_in bytes = kind_of (slice_index bytes 0)

-- ---- values

-- an advertisement by its content: the number of its routers, the words of each, how long they are valid, and their
-- octets
pub record Advert : Type 0 where
  pub count : ℕ
  pub words : ℕ
  pub lifetime : ℕ
  pub entries : List ℕ

abbrev pub advert_of : RouterAdvertisement → Advert
advert_of a = record {
  count = count_in a.routers;
  words = words_in a.routers;
  lifetime = a.lifetime;
  entries = octets_in a.routers;
}

-- a message by its content
pub data Value : Type 0 where
  timestamp : Timestamp → Value
  timestamp_reply : Timestamp → Value
  mask_request : AddressMask → Value
  mask_reply : AddressMask → Value
  solicitation : Value
  advertisement : Advert → Value
  extended_request : Request → Value
  extended_reply : ExtendedEchoReply → Value

abbrev pub value_of : Message → Value
value_of (Message.Timestamp times) = timestamp times
value_of (Message.TimestampReply times) = timestamp_reply times
value_of (Message.AddressMaskRequest mask) = mask_request mask
value_of (Message.AddressMaskReply mask) = mask_reply mask
value_of Message.RouterSolicitation = solicitation
value_of (Message.RouterAdvertisement a) = advertisement (advert_of a)
value_of (Message.ExtendedEchoRequest request) = extended_request (request_of request)
value_of (Message.ExtendedEchoReply reply) = extended_reply reply

-- ---- the text

-- what a message begins with, the checksum zero
abbrev pub header_fields : Kind → ℕ → List (List ℕ)
header_fields kind code = be8 (kind_number kind) ∷ be8 code ∷ be16 0 ∷ []

abbrev pub timestamp_fields : Kind → Timestamp → List (List ℕ)
timestamp_fields kind t =
    header_fields kind 0
    ++ be16 t.ident ∷ be16 t.seq_no ∷ be32 t.originate ∷ be32 t.receive ∷ be32 t.transmit ∷ []

abbrev pub mask_fields : Kind → AddressMask → List (List ℕ)
mask_fields kind m = header_fields kind 0 ++ be16 m.ident ∷ be16 m.seq_no ∷ octets_of m.mask ∷ []

abbrev pub solicitation_fields : List (List ℕ)
solicitation_fields = header_fields Kind.RouterSolicitation 0 ++ be32 0 ∷ []

abbrev pub advert_fields : Advert → List (List ℕ)
advert_fields a =
    header_fields Kind.RouterAdvertisement 0 ++ be8 a.count ∷ be8 a.words ∷ be16 a.lifetime ∷ a.entries ∷ []

abbrev pub extended_request_fields : Request → List (List ℕ)
extended_request_fields r = header_fields Kind.ExtendedEchoRequest 0 ++ request_fields r

abbrev pub extended_reply_fields : ExtendedEchoReply → List (List ℕ)
extended_reply_fields r = header_fields Kind.ExtendedEchoReply r.code ++ reply_fields r

abbrev pub message_fields : Value → List (List ℕ)
message_fields (timestamp t) = timestamp_fields Kind.Timestamp t
message_fields (timestamp_reply t) = timestamp_fields Kind.TimestampReply t
message_fields (mask_request m) = mask_fields Kind.AddressMaskRequest m
message_fields (mask_reply m) = mask_fields Kind.AddressMaskReply m
message_fields solicitation = solicitation_fields
message_fields (advertisement a) = advert_fields a
message_fields (extended_request r) = extended_request_fields r
message_fields (extended_reply r) = extended_reply_fields r

abbrev pub text : Value → List ℕ
text v = fields (message_fields v)

-- the bytes that a message takes
abbrev pub text_len : Value → ℕ
text_len (timestamp t) = 20
text_len (timestamp_reply t) = 20
text_len (mask_request m) = 12
text_len (mask_reply m) = 12
text_len solicitation = 8
text_len (advertisement a) = 8 + length a.entries
text_len (extended_request r) = 8 + length r.structure
text_len (extended_reply r) = 8

-- ---- the grammar

abbrev pub code_in : List ℕ → ℕ
code_in bytes = slice_index bytes 1

-- The checks of a message with a fixed number of bytes: the code is zero, and they are there.
abbrev pub fixed_checks : ℕ → List ℕ → List (Check Refusal)
fixed_checks n bytes =
    check (code_in bytes ≡ 0) (Refusal.Code (code_in bytes)) ∷ check (n ≤ length bytes) Refusal.Length ∷ []

-- The bytes of all entries of an advertisement: the words of each are counted, four bytes a word.
abbrev pub count_of : List ℕ → ℕ
count_of bytes = slice_index bytes 4

abbrev pub words_of : List ℕ → ℕ
words_of bytes = slice_index bytes 5

abbrev pub entries_len : List ℕ → ℕ
entries_len bytes = 4 * (words_of bytes * count_of bytes)

-- The checks of an advertisement (RFC 1256 section 5.2): the code is zero, there is a router, its entry has an address
-- and a preference, and all entries are there.
abbrev pub advert_checks : List ℕ → List (Check Refusal)
advert_checks bytes =
    check (code_in bytes ≡ 0) (Refusal.Code (code_in bytes))
    ∷ check (1 ≤ count_of bytes) Refusal.NoRouters
    ∷ check (2 ≤ words_of bytes) (Refusal.EntrySize (words_of bytes))
    ∷ check (8 + entries_len bytes ≤ length bytes) Refusal.Cut
    ∷ []

-- The checks after that of the checksum, in their order. The code of an extended echo request is ignored (RFC 8335
-- section 2), and that of a reply says how it went.
abbrev pub kind_checks : List ℕ → Option Kind → List (Check Refusal)
kind_checks bytes (Some Kind.Timestamp) = fixed_checks 20 bytes
kind_checks bytes (Some Kind.TimestampReply) = fixed_checks 20 bytes
kind_checks bytes (Some Kind.AddressMaskRequest) = fixed_checks 12 bytes
kind_checks bytes (Some Kind.AddressMaskReply) = fixed_checks 12 bytes
kind_checks bytes (Some Kind.RouterSolicitation) = fixed_checks 8 bytes
kind_checks bytes (Some Kind.RouterAdvertisement) = advert_checks bytes
kind_checks bytes (Some Kind.ExtendedEchoRequest) = []
kind_checks bytes (Some Kind.ExtendedEchoReply) = []
kind_checks bytes None = check ⊥ (Refusal.UnknownType (slice_index bytes 0)) ∷ []

-- The checks: the eight bytes that every message has, the checksum, and the others.
abbrev pub checks : List ℕ → List (Check Refusal)
checks bytes =
    check (8 ≤ length bytes) Refusal.Short
    ∷ check (IsGood bytes 0) Refusal.Checksum
    ∷ kind_checks bytes (kind_in bytes)

pub record IsTimestamp (bytes : List ℕ) (t : Timestamp) : Type 0 where
  pub ident : t.ident ≡ number_of ident_field bytes
  pub seq_no : t.seq_no ≡ number_of seq_no_field bytes
  pub originate : t.originate ≡ number_of (field 8 12) bytes
  pub receive : t.receive ≡ number_of (field 12 16) bytes
  pub transmit : t.transmit ≡ number_of (field 16 20) bytes

pub record IsAddressMask (bytes : List ℕ) (m : AddressMask) : Type 0 where
  pub ident : m.ident ≡ number_of ident_field bytes
  pub seq_no : m.seq_no ≡ number_of seq_no_field bytes
  pub mask : octets_of m.mask ≡ bytes_of (field 8 12) bytes

pub record IsAdvertisement (bytes : List ℕ) (a : Advert) : Type 0 where
  pub count : a.count ≡ count_of bytes
  pub words : a.words ≡ words_of bytes
  pub lifetime : a.lifetime ≡ number_of (field 6 8) bytes
  pub entries : a.entries ≡ bytes_of (field 8 (8 + entries_len bytes)) bytes

-- What the bytes say; what follows is not looked at, and neither are reserved bits. The data of an extended request is
-- all that follows its fields.
abbrev pub IsContent : List ℕ → Value → Type 0
IsContent bytes (timestamp t) = (kind_in bytes ≡ Some Kind.Timestamp) × IsTimestamp bytes t
IsContent bytes (timestamp_reply t) = (kind_in bytes ≡ Some Kind.TimestampReply) × IsTimestamp bytes t
IsContent bytes (mask_request m) = (kind_in bytes ≡ Some Kind.AddressMaskRequest) × IsAddressMask bytes m
IsContent bytes (mask_reply m) = (kind_in bytes ≡ Some Kind.AddressMaskReply) × IsAddressMask bytes m
IsContent bytes solicitation = kind_in bytes ≡ Some Kind.RouterSolicitation
IsContent bytes (advertisement a) = (kind_in bytes ≡ Some Kind.RouterAdvertisement) × IsAdvertisement bytes a
IsContent bytes (extended_request r) = (kind_in bytes ≡ Some Kind.ExtendedEchoRequest) × IsExtendedRequest bytes r
IsContent bytes (extended_reply r) = (kind_in bytes ≡ Some Kind.ExtendedEchoReply) × IsExtendedReply bytes r

-- The grammar: the bytes pass the checks, and say this.
pub record IsMessage (bytes : List ℕ) (v : Value) : Type 0 where
  pub passes : Passes (checks bytes)
  pub content : IsContent bytes v

abbrev pub Refuses : List ℕ → Refusal → Type 0
Refuses bytes why = Fails (checks bytes) why

-- ---- canonical values

-- the requirements on a message and on the octets that it is written into: there is room, a state has three bits,
-- and the words of a router are fewer than 256
abbrev pub CanEmit : Value → List ℕ → Type 0
CanEmit (advertisement a) bytes = (8 + length a.entries ≤ length bytes) × (a.words < 256)
CanEmit (extended_reply r) bytes = (8 ≤ length bytes) × (r.state < 8)
CanEmit v bytes = text_len v ≤ length bytes

-- numbers that fit their fields
abbrev pub TimesFit : Timestamp → Type 0
TimesFit t =
    (t.ident < 2 ^ 16) × (t.seq_no < 2 ^ 16) × (t.originate < 2 ^ 32) × (t.receive < 2 ^ 32) × (t.transmit < 2 ^ 32)

abbrev pub MaskFits : AddressMask → Type 0
MaskFits m = (m.ident < 2 ^ 16) × (m.seq_no < 2 ^ 16)

-- an advertisement of a router or more, whose octets are all entries
pub record AdvertFits (a : Advert) : Type 0 where
  pub some : 1 ≤ a.count
  pub count : a.count < 2 ^ 8
  pub two : 2 ≤ a.words
  pub words : a.words < 2 ^ 8
  pub lifetime : a.lifetime < 2 ^ 16
  pub entries : length a.entries ≡ 4 * (a.words * a.count)

-- a message that its own text gives back
abbrev pub IsCanonical : Value → Type 0
IsCanonical (timestamp t) = TimesFit t
IsCanonical (timestamp_reply t) = TimesFit t
IsCanonical (mask_request m) = MaskFits m
IsCanonical (mask_reply m) = MaskFits m
IsCanonical solicitation = Unit {0}
IsCanonical (advertisement a) = AdvertFits a
IsCanonical (extended_request r) = RequestFits r
IsCanonical (extended_reply r) = ReplyFits r

-- the packet of a message
abbrev pub packet_text : Value → List ℕ
packet_text v = sealed checksum_field (text v) 0

-- the format; a value is its own normal form, without exception
abbrev pub format : Format Value
format = record {
  Reads = IsMessage;
  Fills = Unit {0};
  text = packet_text;
  IsCanonical = IsCanonical;
  IsException = λ v. ⊥;
  norm = λ v. v;
  IsCut = λ v. ⊥;
}

-- What writing a message over `old` leaves: its text over the front, with the checksum of all. Where `old` has exactly
-- its length, its packet is all that is left.
pub record Emits (v : Value) (old new : List ℕ) : Type 0 where
  pub written : new ≡ sealed checksum_field (over old (text v)) 0
  pub good : IsGood new 0
  pub exact : length old ≡ text_len v → new ≡ packet_text v
  pub round_trips : RoundTrips format v
