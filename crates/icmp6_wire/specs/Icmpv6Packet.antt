-- The view of an ICMPv6 message (RFC 4443 section 2.1), whose header is that of ICMP in wirebase; the meaning of the
-- word after the checksum depends on the type.
use Rattle.std.specs.Prelude.{◌≡◌, ℕ, ◌%◌, ◌^◌, ◌≤◌, Bool, true, false, List, [], ◌∷◌, length, drop}
use Rattle.std.specs.Borrow.{Bor}
use Rattle.icmp6_wire.specs.Words.{Check, check, Passes, Field, field, Reaches, byte_of, with_field, type_field}
use Rattle.icmp6_wire.specs.Words.{header, pseudo_sum, IpProtocol, Ipv6Address, Packet, Message}
use Rattle.icmp6_wire.specs.Icmpv6Tables.{message_of}
use Rattle.icmp6_wire.specs.declared.icmpv6.refusal.Refusal.{Refusal}

-- the buffer of a view, and the view with another buffer
abbrev pub inner : {T : Type 0} → Packet T → T
inner view = view.buffer

abbrev pub with_inner : {T : Type 0} → Packet T → T → Packet T
with_inner view buffer = record view { buffer = buffer }

abbrev pub view_octets : Packet (Bor (List ℕ)) → List ℕ
view_octets view = (inner view).now

-- ---- the fields

-- the word after the checksum: the size of the largest packet (RFC 4443 section 3.2), the place of a problem (section
-- 3.4), or reserved
abbrev pub word_field : Field
word_field = field 4 8

-- of a query for multicast listeners (RFC 3810 section 5.1), what is reserved: two bytes, and the upper half of the
-- byte with the flag and the robustness variable; of a report (section 5.2) two bytes
abbrev pub query_reserved_field : Field
query_reserved_field = field 6 8

abbrev pub sqrv_field : Field
sqrv_field = field 24 25

abbrev pub report_reserved_field : Field
report_reserved_field = field 4 6

-- ---- the header

abbrev pub message_in : List ℕ → Message
message_in bytes = message_of (byte_of type_field bytes)

-- The bytes of the header of each type: the last field that every message of the type has (RFC 4443, RFC 4861 section
-- 4, RFC 3810 section 5). Of a type that is not read here they are the type, the code and the checksum.
abbrev pub header_len_of : Message → ℕ
header_len_of Message.DstUnreachable = 8
header_len_of Message.PktTooBig = 8
header_len_of Message.TimeExceeded = 8
header_len_of Message.ParamProblem = 8
header_len_of Message.EchoRequest = 8
header_len_of Message.EchoReply = 8
header_len_of Message.MldQuery = 28
header_len_of Message.RouterSolicit = 8
header_len_of Message.RouterAdvert = 16
header_len_of Message.NeighborSolicit = 24
header_len_of Message.NeighborAdvert = 24
header_len_of Message.Redirect = 40
header_len_of Message.MldReport = 8
header_len_of _ = 4

abbrev pub header_len_in : List ℕ → ℕ
header_len_in bytes = header_len_of (message_in bytes)

-- what follows the header
abbrev pub payload_in : List ℕ → List ℕ
payload_in bytes = drop (header_len_in bytes) bytes

-- the types whose messages are read here
abbrev pub is_read : Message → Bool
is_read Message.RplControl = false
is_read (Message.Unknown n) = false
is_read _ = true

-- The checks of a header of some types, with their reasons, in their order: there are the 8 bytes of every header, the
-- type is one of these, and there are the bytes of the header of that type.
abbrev pub header_checks : {Why : Type 0} → (Message → Bool) → Why → (ℕ → Why) → Why → List ℕ → List (Check Why)
header_checks is_one short unknown cut bytes =
    check (Reaches header bytes) short
    ∷ check (is_one (message_in bytes) ≡ true) (unknown (byte_of type_field bytes))
    ∷ check (header_len_in bytes ≤ length bytes) cut
    ∷ []

abbrev pub front_checks : List ℕ → List (Check Refusal)
front_checks = header_checks is_read Refusal.Short Refusal.UnknownType Refusal.Length

-- the bytes begin with a header of a type that is read here
abbrev pub BeginsWhole : List ℕ → Type 0
BeginsWhole bytes = Passes (front_checks bytes)

-- ---- what is reserved

-- the bytes with all zero that is reserved in a message of this type
abbrev pub cleared : Message → List ℕ → List ℕ
cleared Message.RouterSolicit bytes = with_field word_field (0 ∷ 0 ∷ 0 ∷ 0 ∷ []) bytes
cleared Message.NeighborSolicit bytes = with_field word_field (0 ∷ 0 ∷ 0 ∷ 0 ∷ []) bytes
cleared Message.NeighborAdvert bytes = with_field word_field (0 ∷ 0 ∷ 0 ∷ 0 ∷ []) bytes
cleared Message.Redirect bytes = with_field word_field (0 ∷ 0 ∷ 0 ∷ 0 ∷ []) bytes
cleared Message.MldQuery bytes =
    with_field sqrv_field (byte_of sqrv_field bytes % 16 ∷ []) (with_field query_reserved_field (0 ∷ 0 ∷ []) bytes)
cleared Message.MldReport bytes = with_field report_reserved_field (0 ∷ 0 ∷ []) bytes
cleared _ bytes = bytes

-- the type has something reserved, and the bytes reach it
abbrev pub CanClear : Message → List ℕ → Type 0
CanClear Message.RouterSolicit bytes = Reaches word_field bytes
CanClear Message.NeighborSolicit bytes = Reaches word_field bytes
CanClear Message.NeighborAdvert bytes = Reaches word_field bytes
CanClear Message.Redirect bytes = Reaches word_field bytes
CanClear Message.MldQuery bytes = Reaches sqrv_field bytes
CanClear Message.MldReport bytes = Reaches report_reserved_field bytes
CanClear _ bytes = ⊥

-- ---- the checksum

-- the sum of the pseudo header of a message of a given number of bytes (RFC 4443 section 2.3, RFC 8200 section 8.1)
unfoldable pub message_sum : Ipv6Address → Ipv6Address → ℕ → ℕ
message_sum source destination bytes = pseudo_sum source destination IpProtocol.Icmpv6 (bytes % 2 ^ 32)
