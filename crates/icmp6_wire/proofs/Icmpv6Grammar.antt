-- The grammar of ICMPv6 messages: the bytes are one message at most, by the type at their front.
use Rattle.std.proofs.Common.{◌≡◌, inl, inr, ℕ, ◌≤◌, true, List, [], ◌∷◌, length, refl, sym, ap, ◌∙◌, arith}
use Rattle.icmp6_wire.specs.Words.{byte_of, type_field, ChecksumCapabilities, Ipv6Address, Ipv6Repr, Message, Passes}
use Rattle.wirebase.proofs.Checks.{passes_fails}
use Rattle.wirebase.proofs.Ipv6Header.{one_header}
use Rattle.icmp6_wire.specs.Icmpv6Tables.{message_number, message_of, is_ndisc, is_mld}
use Rattle.icmp6_wire.specs.Icmpv6Packet.{message_in, header_len_of, is_read, BeginsWhole}
use Rattle.icmp6_wire.specs.Icmpv6.{MessageValue, unreachable, too_big, time_exceeded, param_problem, echo_request}
use Rattle.icmp6_wire.specs.Icmpv6.{echo_reply, mld, ndisc, code_check, type_checks, checks, IsError, IsContent}
use Rattle.icmp6_wire.specs.Icmpv6.{IsMessage}
use Rattle.icmp6_wire.specs.Icmpv6Refusal.{Refuses}
use Rattle.icmp6_wire.specs.Mld.{MldValue, query, report, records}
use Rattle.icmp6_wire.specs.Ndisc.{NdiscValue, router_solicit, router_advert, neighbor_solicit, neighbor_advert}
use Rattle.icmp6_wire.specs.Ndisc.{redirect, checks as neighbor_checks}
use Rattle.icmp6_wire.specs.NdiscRefusal as neighbors
use Rattle.icmp6_wire.specs.declared.icmpv6.refusal.Refusal.{Refusal}
use Rattle.icmp6_wire.specs.declared.ndisc.refusal.Refusal.{Refusal as NeighborRefusal}
use Rattle.icmp6_wire.proofs.MldTexts.{message-one}
use Rattle.icmp6_wire.proofs.NdiscFormat.{message-one as neighbor-one}

-- The kind of message of a type, and that of a value; a query and a report for listeners are one kind, and so are the
-- messages of neighbor discovery.
abbrev kind_of : Message → ℕ
kind_of Message.DstUnreachable = 1
kind_of Message.PktTooBig = 2
kind_of Message.TimeExceeded = 3
kind_of Message.ParamProblem = 4
kind_of Message.EchoRequest = 5
kind_of Message.EchoReply = 6
kind_of Message.RouterSolicit = 7
kind_of Message.RouterAdvert = 7
kind_of Message.NeighborSolicit = 7
kind_of Message.NeighborAdvert = 7
kind_of Message.Redirect = 7
kind_of Message.MldQuery = 8
kind_of Message.MldReport = 8
kind_of _ = 0

abbrev value_kind : MessageValue → ℕ
value_kind (unreachable reason quoted d) = 1
value_kind (too_big mtu quoted d) = 2
value_kind (time_exceeded reason quoted d) = 3
value_kind (param_problem reason pointer quoted d) = 4
value_kind (echo_request ident seq_no d) = 5
value_kind (echo_reply ident seq_no d) = 6
value_kind (ndisc m) = 7
value_kind (mld m) = 8

same_kind : (t : ℕ) (bytes : List ℕ) → byte_of type_field bytes ≡ t
    → kind_of (message_in bytes) ≡ kind_of (message_of t)
same_kind t bytes kind = ap (λ (n : ℕ). kind_of (message_of n)) kind

content-value_kind : (bytes : List ℕ) (v : MessageValue) → IsContent bytes v
    → kind_of (message_in bytes) ≡ value_kind v
content-value_kind bytes (unreachable reason quoted d) c = same_kind 1 bytes c.0.kind
content-value_kind bytes (too_big mtu quoted d) c = same_kind 2 bytes c.0.kind
content-value_kind bytes (time_exceeded reason quoted d) c = same_kind 3 bytes c.0.kind
content-value_kind bytes (param_problem reason pointer quoted d) c = same_kind 4 bytes c.0.kind
content-value_kind bytes (echo_request ident seq_no d) c = same_kind 0x80 bytes c.kind
content-value_kind bytes (echo_reply ident seq_no d) c = same_kind 0x81 bytes c.kind
content-value_kind bytes (ndisc (router_solicit l)) c = same_kind 0x85 bytes c.content.0
content-value_kind bytes (ndisc (router_advert a)) c = same_kind 0x86 bytes c.content.kind
content-value_kind bytes (ndisc (neighbor_solicit t l)) c = same_kind 0x87 bytes c.content.0
content-value_kind bytes (ndisc (neighbor_advert flags t l)) c = same_kind 0x88 bytes c.content.0
content-value_kind bytes (ndisc (redirect t d l r)) c = same_kind 0x89 bytes c.content.0
content-value_kind bytes (mld (query code group flag qrv qqic sources d)) c = same_kind 0x82 bytes c.content.kind
content-value_kind bytes (mld (report count d)) c = same_kind 0x8f bytes c.content.kind
content-value_kind bytes (mld (records rs)) c = absurd c.content

error-unique : (t : ℕ) (bytes : List ℕ) (quoted other : Ipv6Repr) (d e : List ℕ) → IsError t bytes quoted d
    → IsError t bytes other e → (quoted ≡ other) × (d ≡ e)
error-unique t bytes quoted other d e a b = (one_header _ quoted other a.header b.header, a.data_is ∙ sym b.data_is)

content-unique : (bytes : List ℕ) (v w : MessageValue) → IsContent bytes v → IsContent bytes w
    → value_kind v ≡ value_kind w → v ≡ w
content-unique bytes (unreachable reason quoted d) (unreachable other another e) a b same =
    let quotes = error-unique 1 bytes quoted another d e a.0 b.0 in
    cc (a.1 ∙ sym b.1)
content-unique bytes (too_big mtu quoted d) (too_big other another e) a b same =
    let quotes = error-unique 2 bytes quoted another d e a.0 b.0 in
    cc (a.1 ∙ sym b.1)
content-unique bytes (time_exceeded reason quoted d) (time_exceeded other another e) a b same =
    let quotes = error-unique 3 bytes quoted another d e a.0 b.0 in
    cc (a.1 ∙ sym b.1)
content-unique bytes (param_problem reason pointer quoted d) (param_problem other place another e) a b same =
    let quotes = error-unique 4 bytes quoted another d e a.0 b.0 in
    cc (a.1 ∙ sym b.1, a.2 ∙ sym b.2)
content-unique bytes (echo_request ident seq_no d) (echo_request other number e) a b same =
    cc (a.identifier ∙ sym b.identifier, a.sequence ∙ sym b.sequence, a.data_is ∙ sym b.data_is)
content-unique bytes (echo_reply ident seq_no d) (echo_reply other number e) a b same =
    cc (a.identifier ∙ sym b.identifier, a.sequence ∙ sym b.sequence, a.data_is ∙ sym b.data_is)
content-unique bytes (ndisc m) (ndisc n) a b same = ap (λ (x : NdiscValue). ndisc x) (neighbor-one bytes m n a b)
content-unique bytes (mld m) (mld n) a b same = ap (λ (x : MldValue). mld x) (message-one bytes m n a b)
content-unique bytes _ _ a b same = absurd (omega arith)

pub content-one : (bytes : List ℕ) (v w : MessageValue) → IsContent bytes v → IsContent bytes w → v ≡ w
content-one bytes v w a b =
    content-unique bytes v w a b (sym (content-value_kind bytes v a) ∙ content-value_kind bytes w b)

pub message-unique : (capabilities : ChecksumCapabilities) (source destination : Ipv6Address) (bytes : List ℕ)
    (v w : MessageValue) → IsMessage capabilities source destination bytes v
    → IsMessage capabilities source destination bytes w → v ≡ w
message-unique capabilities source destination bytes v w a b = content-one bytes v w a.content b.content

-- ---- what is read, and what is refused

-- the messages of both protocols are read
ndisc-read : (m : Message) → is_ndisc m ≡ true → is_read m ≡ true
ndisc-read m e = grind (arith, e)

mld-read : (m : Message) → is_mld m ≡ true → is_read m ≡ true
mld-read m e = grind (arith, e)

-- bytes of a type whose header has 8 bytes begin with a whole one
header-known : (t : ℕ) (bytes : List ℕ) → 8 ≤ length bytes → is_read (message_of t) ≡ true
    → header_len_of (message_of t) ≡ 8 → byte_of type_field bytes ≡ t → BeginsWhole bytes
header-known t bytes some known long kind =
    let is : message_in bytes ≡ message_of t = ap message_of kind in
    (some, (ap is_read is ∙ known, (omega (arith, ap header_len_of is, long, some), tt)))

pub whole-content : (bytes : List ℕ) (v : MessageValue) → 8 ≤ length bytes → IsContent bytes v → BeginsWhole bytes
whole-content bytes (unreachable reason quoted d) some c = header-known 1 bytes some refl refl c.0.kind
whole-content bytes (too_big mtu quoted d) some c = header-known 2 bytes some refl refl c.0.kind
whole-content bytes (time_exceeded reason quoted d) some c = header-known 3 bytes some refl refl c.0.kind
whole-content bytes (param_problem reason pointer quoted d) some c = header-known 4 bytes some refl refl c.0.kind
whole-content bytes (echo_request ident seq_no d) some c = header-known 0x80 bytes some refl refl c.kind
whole-content bytes (echo_reply ident seq_no d) some c = header-known 0x81 bytes some refl refl c.kind
whole-content bytes (ndisc m) some c =
    (c.passes.0, (ndisc-read (message_in bytes) c.passes.1.0, c.passes.1.1))
whole-content bytes (mld m) some c =
    (c.passes.0, (mld-read (message_in bytes) c.passes.1.0, c.passes.1.1))

-- the one check by the type in a message that is no error
pub code_checks : (m : Message) (bytes : List ℕ) → 128 ≤ message_number m → type_checks m bytes ≡ code_check bytes ∷ []
code_checks m bytes other = grind (arith, other)

-- what is refused in a message of neighbor discovery whose checks hold is an option
pub neighbor_refused : (capabilities : ChecksumCapabilities) (source destination : Ipv6Address) (bytes : List ℕ)
    (reason : NeighborRefusal) → Passes (checks capabilities source destination bytes)
    → is_ndisc (message_in bytes) ≡ true → neighbors.Refuses bytes reason
    → Refuses capabilities source destination bytes (Refusal.Ndisc reason)
neighbor_refused capabilities source destination bytes reason passes is (inl fails) =
    absurd (passes_fails (neighbor_checks bytes) (passes.0, (is, (passes.1.1.0, tt))) reason fails)
neighbor_refused capabilities source destination bytes reason passes is (inr told) =
    inr (record { passes = passes; neighbor = is; reason = reason; why_is = refl; option = told.1 })
