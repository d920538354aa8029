-- Messages of ICMPv6 beside echoes, errors, neighbor discovery and multicast listeners: extended requests and their
-- replies (RFC 8335), which ExtendedEcho.antt has, and queries about a node and their replies (RFC 4620 section 4), as
-- this picture shows; data follows.
--
--  0                   1                   2                   3
--  0 1 2 3 4 5 6 7 8 9 0 1 2 3 4 5 6 7 8 9 0 1 2 3 4 5 6 7 8 9 0 1
-- +---------------+---------------+-------------------------------+
-- |     type      |     code      |           checksum            |
-- +---------------+---------------+-------------------------------+
-- |             Qtype             |             flags             |
-- +-------------------------------+-------------------------------+
-- |                                                               |
-- |                        nonce, 8 bytes                         |
-- |                                                               |
-- +---------------------------------------------------------------+
use Rattle.std.specs.Prelude.{◌≡◌, ℕ, ◌+◌, ◌%◌, ◌^◌, ◌<◌, ◌≤◌, ◌==◌, if◌then◌else◌, List, [], ◌∷◌, ◌++◌, length, drop}
use Rattle.std.specs.Prelude.{slice_index, Option, Some, None}
use Rattle.byteorder.specs.Endian.{big_bytes}
use Rattle.wirebase.specs.Bytes.{Field, field, over, byte_of, number_of}
use Rattle.wirebase.specs.ByteWriter.{be8, be16, fields}
use Rattle.wirebase.specs.Checks.{Check, Fails, Passes, check}
use Rattle.wirebase.specs.Checksum.{IsGood, fold, sealed}
use Rattle.wirebase.specs.Format.{Format, RoundTrips}
use Rattle.wirebase.specs.Icmp.{code_field, checksum_field}
use Rattle.wirebase.specs.Ipv6.{pseudo_sum}
use Rattle.wirebase.specs.declared.ip.IpProtocol.{IpProtocol}
use Rattle.wirebase.specs.declared.ipv6.address.Ipv6Address.{Ipv6Address}
use Rattle.header_wire.specs.declared.extended_echo.ExtendedEchoReply.{ExtendedEchoReply}
use Rattle.header_wire.specs.declared.icmpv6.Kind.{Kind}
use Rattle.header_wire.specs.declared.icmpv6.Message.{Message}
use Rattle.header_wire.specs.declared.icmpv6.NodeInformation.{NodeInformation}
use Rattle.header_wire.specs.declared.icmpv6.Refusal.{Refusal}
use Rattle.header_wire.specs.ExtendedEcho.{Request, request_of, request_fields, reply_fields, IsExtendedRequest}
use Rattle.header_wire.specs.ExtendedEcho.{IsExtendedReply, RequestFits, ReplyFits}

-- ---- types

abbrev pub kind_number : Kind → ℕ
kind_number Kind.NodeInformationQuery = 139
kind_number Kind.NodeInformationReply = 140
kind_number Kind.ExtendedEchoRequest = 160
kind_number Kind.ExtendedEchoReply = 161

abbrev pub kind_of : ℕ → Option Kind
kind_of t =
    if t == 139 then Some Kind.NodeInformationQuery else if t == 140 then Some Kind.NodeInformationReply
    else if t == 160 then Some Kind.ExtendedEchoRequest else if t == 161 then Some Kind.ExtendedEchoReply else None

-- the kind of message in some bytes
abbrev pub kind_in : List ℕ → Option Kind
kind_in bytes = kind_of (slice_index bytes 0)

-- ---- values

-- what is asked or told of a node, by its content: the octets are its data
pub record Node : Type 0 where
  pub code : ℕ
  pub qtype : ℕ
  pub flags : ℕ
  pub nonce : ℕ
  pub octets : List ℕ

abbrev pub node_of : NodeInformation → Node
node_of n = record {
  code = n.code;
  qtype = n.qtype;
  flags = n.flags;
  nonce = n.nonce;
  octets = n.«data».now;
}

-- a message by its content
pub data Value : Type 0 where
  node_query : Node → Value
  node_reply : Node → Value
  extended_request : Request → Value
  extended_reply : ExtendedEchoReply → Value

abbrev pub value_of : Message → Value
value_of (Message.NodeInformationQuery node) = node_query (node_of node)
value_of (Message.NodeInformationReply node) = node_reply (node_of node)
value_of (Message.ExtendedEchoRequest request) = extended_request (request_of request)
value_of (Message.ExtendedEchoReply reply) = extended_reply reply

-- ---- the text

-- what a message begins with, the checksum zero
abbrev pub header_fields : Kind → ℕ → List (List ℕ)
header_fields kind code = be8 (kind_number kind) ∷ be8 code ∷ be16 0 ∷ []

abbrev pub node_fields : Kind → Node → List (List ℕ)
node_fields kind n =
    header_fields kind n.code ++ be16 n.qtype ∷ be16 n.flags ∷ big_bytes 8 n.nonce ∷ n.octets ∷ []

abbrev pub extended_request_fields : Request → List (List ℕ)
extended_request_fields r = header_fields Kind.ExtendedEchoRequest 0 ++ request_fields r

abbrev pub extended_reply_fields : ExtendedEchoReply → List (List ℕ)
extended_reply_fields r = header_fields Kind.ExtendedEchoReply r.code ++ reply_fields r

abbrev pub message_fields : Value → List (List ℕ)
message_fields (node_query n) = node_fields Kind.NodeInformationQuery n
message_fields (node_reply n) = node_fields Kind.NodeInformationReply n
message_fields (extended_request r) = extended_request_fields r
message_fields (extended_reply r) = extended_reply_fields r

abbrev pub text : Value → List ℕ
text v = fields (message_fields v)

-- the bytes that a message takes
abbrev pub text_len : Value → ℕ
text_len (node_query n) = 16 + length n.octets
text_len (node_reply n) = 16 + length n.octets
text_len (extended_request r) = 8 + length r.structure
text_len (extended_reply r) = 8

-- ---- the grammar

abbrev pub qtype_field : Field
qtype_field = field 4 6

abbrev pub flags_field : Field
flags_field = field 6 8

abbrev pub nonce_field : Field
nonce_field = field 8 16

-- the checks of a message about a node: its fields are there
abbrev pub node_checks : List ℕ → List (Check Refusal)
node_checks bytes = check (16 ≤ length bytes) Refusal.Length ∷ []

-- The checks after that of the checksum. The code of an extended request is not looked at (RFC 8335 section 2).
abbrev pub kind_checks : List ℕ → Option Kind → List (Check Refusal)
kind_checks bytes (Some Kind.NodeInformationQuery) = node_checks bytes
kind_checks bytes (Some Kind.NodeInformationReply) = node_checks bytes
kind_checks bytes (Some Kind.ExtendedEchoRequest) = []
kind_checks bytes (Some Kind.ExtendedEchoReply) = []
kind_checks bytes None = check ⊥ (Refusal.UnknownType (slice_index bytes 0)) ∷ []

-- The checks: the eight bytes that every message has, the checksum with the sum of a pseudo header, and the others.
abbrev pub checks : ℕ → List ℕ → List (Check Refusal)
checks extra bytes =
    check (8 ≤ length bytes) Refusal.Short
    ∷ check (IsGood bytes extra) Refusal.Checksum
    ∷ kind_checks bytes (kind_in bytes)

pub record IsNode (bytes : List ℕ) (n : Node) : Type 0 where
  pub code : n.code ≡ byte_of code_field bytes
  pub qtype : n.qtype ≡ number_of qtype_field bytes
  pub flags : n.flags ≡ number_of flags_field bytes
  pub nonce : n.nonce ≡ number_of nonce_field bytes
  pub octets : n.octets ≡ drop 16 bytes

-- What the bytes say. Data is all that follows the fields; what follows an extended reply is not looked at, and neither
-- are reserved bits.
abbrev pub IsContent : List ℕ → Value → Type 0
IsContent bytes (node_query n) = (kind_in bytes ≡ Some Kind.NodeInformationQuery) × IsNode bytes n
IsContent bytes (node_reply n) = (kind_in bytes ≡ Some Kind.NodeInformationReply) × IsNode bytes n
IsContent bytes (extended_request r) = (kind_in bytes ≡ Some Kind.ExtendedEchoRequest) × IsExtendedRequest bytes r
IsContent bytes (extended_reply r) = (kind_in bytes ≡ Some Kind.ExtendedEchoReply) × IsExtendedReply bytes r

-- The grammar: the bytes pass the checks, and say this.
pub record IsMessage (extra : ℕ) (bytes : List ℕ) (v : Value) : Type 0 where
  pub passes : Passes (checks extra bytes)
  pub content : IsContent bytes v

abbrev pub Refuses : ℕ → List ℕ → Refusal → Type 0
Refuses extra bytes why = Fails (checks extra bytes) why

-- ---- canonical values

-- the requirements on a message and on the octets that it is written into: there is room, and a state has three bits
abbrev pub CanEmit : Value → List ℕ → Type 0
CanEmit (extended_reply r) bytes = (8 ≤ length bytes) × (r.state < 8)
CanEmit v bytes = text_len v ≤ length bytes

-- numbers that fit their fields
abbrev pub NodeFits : Node → Type 0
NodeFits n = (n.code < 2 ^ 8) × (n.qtype < 2 ^ 16) × (n.flags < 2 ^ 16) × (n.nonce < 2 ^ 64)

-- a message that its own text gives back
abbrev pub IsCanonical : Value → Type 0
IsCanonical (node_query n) = NodeFits n
IsCanonical (node_reply n) = NodeFits n
IsCanonical (extended_request r) = RequestFits r
IsCanonical (extended_reply r) = ReplyFits r

-- the sum of the pseudo header of so many bytes of ICMPv6 (RFC 4443 section 2.3, RFC 8200 section 8.1)
unfoldable pub message_sum : Ipv6Address → Ipv6Address → ℕ → ℕ
message_sum source destination bytes = fold (pseudo_sum source destination IpProtocol.Icmpv6 (bytes % 2 ^ 32))

-- The packet of a message, where `extra` tells the sum of the pseudo header of so many bytes, and the format; a value
-- is its own normal form, without exception.
abbrev pub packet_text : (ℕ → ℕ) → Value → List ℕ
packet_text extra v = sealed checksum_field (text v) (extra (length (text v)))

abbrev pub format : (ℕ → ℕ) → Format Value
format extra = record {
  Reads = λ bytes v. IsMessage (extra (length bytes)) bytes v;
  Fills = Unit {0};
  text = packet_text extra;
  IsCanonical = IsCanonical;
  IsException = λ v. ⊥;
  norm = λ v. v;
  IsCut = λ v. ⊥;
}

-- What writing a message over `old` leaves: its text over the front, with the checksum of all. Where `old` has exactly
-- its length, its packet is all that is left.
pub record Emits (extra : ℕ → ℕ) (v : Value) (old new : List ℕ) : Type 0 where
  pub written : new ≡ sealed checksum_field (over old (text v)) (extra (length old))
  pub good : IsGood new (extra (length old))
  pub exact : length old ≡ text_len v → new ≡ packet_text extra v
  pub round_trips : RoundTrips (format extra) v
