-- ICMPv6 messages (RFC 4443), whose header and echoes are those of ICMP in wirebase. The word after the checksum of an
-- error is zero, the largest packet or the pointer; the header is followed by the IPv6 header that the error is about,
-- and the data after that.
use Rattle.std.specs.Prelude.{◌≡◌, ◌≢◌, ℕ, ◌+◌, ◌≤◌, ◌<◌, ◌^◌, min, true, List, [], ◌∷◌, ◌++◌, length, drop, take}
use Rattle.icmp6_wire.specs.Words.{Reaches, byte_of, number_of, over, be8, be16, be32, fields, is_verified, is_computed}
use Rattle.icmp6_wire.specs.Words.{sealed_where, IsGood, Format, RoundTrips, type_field, code_field, checksum_field}
use Rattle.icmp6_wire.specs.Words.{header, data_in, IsEcho, echo_fields, protocol_number, protocol_rows, IsHeader}
use Rattle.icmp6_wire.specs.Words.{header_text, IsProper, ChecksumCapabilities, Checksum, IpProtocol, Ipv6Address}
use Rattle.icmp6_wire.specs.Words.{Ipv6Repr, DstUnreachable, Message, ParamProblem, TimeExceeded, Check, Passes, check}
use Rattle.icmp6_wire.specs.Icmpv6Packet.{message_in, front_checks, word_field, message_sum}
use Rattle.icmp6_wire.specs.Icmpv6Tables.{unreachable_number, unreachable_rows, unreachable_of, param_problem_number}
use Rattle.icmp6_wire.specs.Icmpv6Tables.{param_problem_rows, param_problem_of, time_exceeded_number}
use Rattle.icmp6_wire.specs.Icmpv6Tables.{time_exceeded_rows, time_exceeded_of}
use Rattle.icmp6_wire.specs.Mld as listeners
use Rattle.icmp6_wire.specs.Mld.{MldValue}
use Rattle.icmp6_wire.specs.Ndisc as neighbors
use Rattle.icmp6_wire.specs.Ndisc.{NdiscValue}
use Rattle.icmp6_wire.specs.declared.icmpv6.refusal.Refusal.{Refusal}
use Rattle.icmp6_wire.specs.declared.icmpv6.repr.Repr.{Repr}

-- A message by its content: an error with its reason, the largest packet, the time or the problem and its place, the
-- header that it is about and the data after it; an echo with its identifier, its sequence number and its data; or a
-- message of multicast listener discovery or of neighbor discovery.
pub data MessageValue : Type 0 where
  unreachable : DstUnreachable → Ipv6Repr → List ℕ → MessageValue
  too_big : ℕ → Ipv6Repr → List ℕ → MessageValue
  time_exceeded : TimeExceeded → Ipv6Repr → List ℕ → MessageValue
  param_problem : ParamProblem → ℕ → Ipv6Repr → List ℕ → MessageValue
  echo_request : ℕ → ℕ → List ℕ → MessageValue
  echo_reply : ℕ → ℕ → List ℕ → MessageValue
  ndisc : NdiscValue → MessageValue
  mld : MldValue → MessageValue

abbrev pub value_of : Repr → MessageValue
value_of (Repr.DstUnreachable reason quoted d) = unreachable reason quoted d.now
value_of (Repr.PktTooBig mtu quoted d) = too_big mtu quoted d.now
value_of (Repr.TimeExceeded reason quoted d) = time_exceeded reason quoted d.now
value_of (Repr.ParamProblem reason pointer quoted d) = param_problem reason pointer quoted d.now
value_of (Repr.EchoRequest ident seq_no d) = echo_request ident seq_no d.now
value_of (Repr.EchoReply ident seq_no d) = echo_reply ident seq_no d.now
value_of (Repr.Ndisc m) = ndisc (neighbors.value_of m)
value_of (Repr.Mld m) = mld (listeners.value_of m)

-- ---- the text

-- what an error quotes of the data after a header, so that with an IPv6 header of its own it is at most the 1,280 bytes
-- that every link can carry (RFC 4443 section 2.4)
unfoldable pub quoted_data : List ℕ → List ℕ
quoted_data d = take 1192 d

-- the fields, with the checksum zero
abbrev pub error_fields : ℕ → ℕ → ℕ → Ipv6Repr → List ℕ → List (List ℕ)
error_fields t code word quoted d = be8 t ∷ be8 code ∷ be16 0 ∷ be32 word ∷ header_text quoted ∷ quoted_data d ∷ []

abbrev pub message_fields : MessageValue → List (List ℕ)
message_fields (unreachable reason quoted d) = error_fields 1 (unreachable_number reason) 0 quoted d
message_fields (too_big mtu quoted d) = error_fields 2 0 mtu quoted d
message_fields (time_exceeded reason quoted d) = error_fields 3 (time_exceeded_number reason) 0 quoted d
message_fields (param_problem reason pointer quoted d) = error_fields 4 (param_problem_number reason) pointer quoted d
message_fields (echo_request ident seq_no d) = echo_fields 0x80 ident seq_no d
message_fields (echo_reply ident seq_no d) = echo_fields 0x81 ident seq_no d
message_fields (ndisc m) = neighbors.message_fields m
message_fields (mld m) = listeners.message_fields m

abbrev pub text : MessageValue → List ℕ
text v = fields (message_fields v)

-- the bytes that it takes, and those before a list of records
abbrev pub error_len : List ℕ → ℕ
error_len d = 48 + min (length d) 1192

abbrev pub text_len : MessageValue → ℕ
text_len (unreachable reason quoted d) = error_len d
text_len (too_big mtu quoted d) = error_len d
text_len (time_exceeded reason quoted d) = error_len d
text_len (param_problem reason pointer quoted d) = error_len d
text_len (echo_request ident seq_no d) = 8 + length d
text_len (echo_reply ident seq_no d) = 8 + length d
text_len (ndisc m) = neighbors.text_len m
text_len (mld m) = listeners.text_len m

abbrev pub told_len : MessageValue → ℕ
told_len (mld m) = listeners.told_len m
told_len v = text_len v

-- a message that is an error
abbrev pub IsErrorValue : MessageValue → Type 0
IsErrorValue (echo_request ident seq_no d) = ⊥
IsErrorValue (echo_reply ident seq_no d) = ⊥
IsErrorValue (ndisc m) = ⊥
IsErrorValue (mld m) = ⊥
IsErrorValue _ = Unit {0}

-- the octets with their checksum, where the capabilities have it computed
abbrev pub seal : ChecksumCapabilities → Ipv6Address → Ipv6Address → List ℕ → List ℕ
seal capabilities source destination bytes =
    sealed_where capabilities.icmpv6 checksum_field bytes (message_sum source destination (length bytes))

-- the packet of a message, and the octets that it was written into
abbrev pub packet_text : ChecksumCapabilities → Ipv6Address → Ipv6Address → MessageValue → List ℕ
packet_text capabilities source destination v = seal capabilities source destination (text v)

abbrev pub emitted : ChecksumCapabilities → Ipv6Address → Ipv6Address → MessageValue → List ℕ → List ℕ
emitted capabilities source destination v old = seal capabilities source destination (over old (text v))

-- The requirements on a message and on the octets that it is written into: for an echo there is room for its header;
-- for an error there is room for all of it, and the quoted header can count its payload; for a message of multicast
-- listener discovery or of neighbor discovery, its own requirements.
abbrev pub CanEmitError : Ipv6Repr → List ℕ → List ℕ → Type 0
CanEmitError quoted d bytes = (error_len d ≤ length bytes) × (quoted.payload_len ≤ 65535)

abbrev pub CanEmit : MessageValue → List ℕ → Type 0
CanEmit (unreachable reason quoted d) bytes = CanEmitError quoted d bytes
CanEmit (too_big mtu quoted d) bytes = CanEmitError quoted d bytes
CanEmit (time_exceeded reason quoted d) bytes = CanEmitError quoted d bytes
CanEmit (param_problem reason pointer quoted d) bytes = CanEmitError quoted d bytes
CanEmit (echo_request ident seq_no d) bytes = Reaches header bytes
CanEmit (echo_reply ident seq_no d) bytes = Reaches header bytes
CanEmit (ndisc m) bytes = neighbors.CanEmit m × (neighbors.text_len m ≤ length bytes)
CanEmit (mld m) bytes = listeners.CanEmit m bytes

-- ---- the grammar

-- an error quotes a whole header, and the code is 0 in a message of a type that has no other (RFC 4443 section 2.1)
abbrev pub quote_check : List ℕ → Check Refusal
quote_check bytes = check (48 ≤ length bytes) Refusal.Quote

abbrev pub code_check : List ℕ → Check Refusal
code_check bytes = check (byte_of code_field bytes ≡ 0) (Refusal.Code (byte_of code_field bytes))

-- the checks by the type
abbrev pub type_checks : Message → List ℕ → List (Check Refusal)
type_checks Message.DstUnreachable bytes = quote_check bytes ∷ []
type_checks Message.PktTooBig bytes = quote_check bytes ∷ code_check bytes ∷ []
type_checks Message.TimeExceeded bytes = quote_check bytes ∷ []
type_checks Message.ParamProblem bytes = quote_check bytes ∷ []
type_checks message bytes = code_check bytes ∷ []

-- All checks, in their order: there are the 8 bytes of every header; the type is one that is read; there are the bytes
-- of the header of that type; the checksum is good where it is verified; and those by the type. The checks of options
-- follow in a message of neighbor discovery.
abbrev pub checks : ChecksumCapabilities → Ipv6Address → Ipv6Address → List ℕ → List (Check Refusal)
checks capabilities source destination bytes =
    front_checks bytes
    ++ check (is_verified capabilities.icmpv6 ≡ true → IsGood bytes (message_sum source destination (length bytes)))
    Refusal.Checksum
    ∷ type_checks (message_in bytes) bytes

-- An error of this type: the version and the length of the quoted header are not checked; the data is all that follows
-- it.
pub record IsError (t : ℕ) (bytes : List ℕ) (quoted : Ipv6Repr) (d : List ℕ) : Type 0 where
  pub kind : byte_of type_field bytes ≡ t
  pub header : IsHeader (data_in bytes) quoted
  pub data_is : d ≡ drop 40 (data_in bytes)

abbrev pub IsContent : List ℕ → MessageValue → Type 0
IsContent bytes (unreachable reason quoted d) =
    IsError 1 bytes quoted d × (reason ≡ unreachable_of (byte_of code_field bytes))
IsContent bytes (too_big mtu quoted d) =
    IsError 2 bytes quoted d × (mtu ≡ number_of word_field bytes)
IsContent bytes (time_exceeded reason quoted d) =
    IsError 3 bytes quoted d × (reason ≡ time_exceeded_of (byte_of code_field bytes))
IsContent bytes (param_problem reason pointer quoted d) =
    IsError 4 bytes quoted d × (reason ≡ param_problem_of (byte_of code_field bytes))
    × (pointer ≡ number_of word_field bytes)
IsContent bytes (echo_request ident seq_no d) = IsEcho 0x80 bytes ident seq_no d
IsContent bytes (echo_reply ident seq_no d) = IsEcho 0x81 bytes ident seq_no d
IsContent bytes (ndisc m) = neighbors.IsMessage bytes m
IsContent bytes (mld m) = listeners.IsMessage bytes m

-- The grammar: the bytes pass the checks, and have this content.
pub record IsMessage (capabilities : ChecksumCapabilities) (source destination : Ipv6Address) (bytes : List ℕ)
    (v : MessageValue) : Type 0 where
  pub passes : Passes (checks capabilities source destination bytes)
  pub content : IsContent bytes v

-- ---- canonical values and the normal form

-- a header that its own text gives back
abbrev pub CanQuote : Ipv6Repr → Type 0
CanQuote quoted =
    IsProper IpProtocol.Unknown protocol_rows quoted.next_header × (protocol_number quoted.next_header < 256)
    × (quoted.hop_limit < 256)
    × (quoted.payload_len < 2 ^ 16)

abbrev pub IsCanonical : MessageValue → Type 0
IsCanonical (unreachable reason quoted d) =
    IsProper DstUnreachable.Unknown unreachable_rows reason × (unreachable_number reason < 256) × CanQuote quoted
IsCanonical (too_big mtu quoted d) = (mtu < 2 ^ 32) × CanQuote quoted
IsCanonical (time_exceeded reason quoted d) =
    IsProper TimeExceeded.Unknown time_exceeded_rows reason × (time_exceeded_number reason < 256) × CanQuote quoted
IsCanonical (param_problem reason pointer quoted d) =
    IsProper ParamProblem.Unknown param_problem_rows reason × (param_problem_number reason < 256) × (pointer < 2 ^ 32)
    × CanQuote quoted
IsCanonical (echo_request ident seq_no d) = (ident < 2 ^ 16) × (seq_no < 2 ^ 16) × (8 + length d ≤ 65535)
IsCanonical (echo_reply ident seq_no d) = (ident < 2 ^ 16) × (seq_no < 2 ^ 16) × (8 + length d ≤ 65535)
IsCanonical (ndisc m) = neighbors.IsCanonical m
IsCanonical (mld m) = listeners.IsCanonical m

-- the checksum is filled where it is verified
abbrev pub Fills : ChecksumCapabilities → Type 0
Fills capabilities = capabilities.icmpv6 ≢ Checksum.Rx

-- the normal form: of an error, the data that it quotes; of a message of multicast listener discovery or of neighbor
-- discovery its own
abbrev pub norm : MessageValue → MessageValue
norm (unreachable reason quoted d) = unreachable reason quoted (quoted_data d)
norm (too_big mtu quoted d) = too_big mtu quoted (quoted_data d)
norm (time_exceeded reason quoted d) = time_exceeded reason quoted (quoted_data d)
norm (param_problem reason pointer quoted d) = param_problem reason pointer quoted (quoted_data d)
norm (ndisc m) = ndisc (neighbors.norm m)
norm (mld m) = mld (listeners.norm m)
norm v = v

-- an error with more data than it quotes
abbrev pub IsCut : MessageValue → Type 0
IsCut (unreachable reason quoted d) = 1192 < length d
IsCut (too_big mtu quoted d) = 1192 < length d
IsCut (time_exceeded reason quoted d) = 1192 < length d
IsCut (param_problem reason pointer quoted d) = 1192 < length d
IsCut v = ⊥

-- the format between these addresses, under these capabilities; no value is an exception
abbrev pub format : ChecksumCapabilities → Ipv6Address → Ipv6Address → Format MessageValue
format capabilities source destination =
    record {
      Reads = IsMessage capabilities source destination;
      Fills = Fills capabilities;
      text = packet_text capabilities source destination;
      IsCanonical = IsCanonical;
      IsException = λ v. ⊥;
      norm = norm;
      IsCut = IsCut;
    }

-- What writing a message over `old` leaves. Where the checksum is computed, that of all the octets is good, however
-- many there are. Where `old` has exactly the message's length, its packet is all that is left, and a canonical value
-- is read back from it as its normal form.
pub record Emits (capabilities : ChecksumCapabilities) (source destination : Ipv6Address) (v : MessageValue)
    (old new : List ℕ) : Type 0 where
  pub written : new ≡ emitted capabilities source destination v old
  pub good : is_computed capabilities.icmpv6 ≡ true → IsGood new (message_sum source destination (length new))
  pub exact : length old ≡ text_len v → new ≡ packet_text capabilities source destination v
  pub reads_back : length old ≡ text_len v → Fills capabilities → IsCanonical v
      → IsMessage capabilities source destination new (norm v)
  pub round_trips : RoundTrips (format capabilities source destination) v
