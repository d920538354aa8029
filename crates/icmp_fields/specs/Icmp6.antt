-- ICMPv6 messages (RFC 4443), as fields.
use Rattle.std.specs.Prelude.{◌≡◌, ◌==◌, ◌||◌, ◌∷◌, ◌++◌, [], Bool, List, None, Option, Some, ℕ, codes}
use Rattle.std.specs.Prelude.{if◌then◌else◌, length, nat_lt, true}
use Rattle.wirebase.specs.Bytes.{byte_of}
use Rattle.wirebase.specs.Icmp.{code_field, type_field}
use Rattle.icmp6_wire.specs.Icmpv6.{MessageValue, echo_request, echo_reply, unreachable, too_big, time_exceeded}
use Rattle.icmp6_wire.specs.Icmpv6.{param_problem, mld, ndisc}
use Rattle.extension_wire.specs.declared.family.Family.{Family}
use Rattle.quote_wire.specs.Error.{ErrorValue}
use Rattle.quote_wire.specs.Icmpv6Error.{kind_number, length_in}
use Rattle.quote_wire.specs.Quote.{IsIpv6Quote}
use Rattle.quote_wire.specs.Upper.{LeadsTo, UpperValue, own_payload}
use Rattle.quote_wire.specs.declared.icmpv6_error.Kind.{Kind}
use Rattle.quote_wire.specs.declared.quote.Ipv6Quote.{Ipv6Quote}
use Rattle.packet_fields.specs.Fields.{Item, field, number}
use Rattle.icmp_fields.specs.ExtendedEcho as extended
use Rattle.icmp_fields.specs.Extensions.{AreBehind, Division, IsDivision, quoted_in}
use Rattle.icmp_fields.specs.Icmp.{named_head, echo_items as behind_echo, rest_items, behind_checksum, refused_items}
use Rattle.icmp_fields.specs.Icmp.{why_items}
use Rattle.icmp_fields.specs.IcmpNames.{icmp6_types, icmp6_code_name}
use Rattle.icmp_fields.specs.Names.{name_in}
use Rattle.icmp_fields.specs.NodeInformation as node
use Rattle.icmp_fields.specs.Quote.{ipv6_quote_items}
use Rattle.icmp_fields.specs.declared.refusal.Refusal.{Refusal}
use Rattle.icmp_fields.specs.declared.refusal.Refusal.TheVariants as reason
use Rattle.icmp_fields.specs.declared.refusal.Told.{Told}
use Rattle.icmp_fields.specs.declared.refusal.Told.TheVariants as how

-- a type and a code
abbrev pub head_items : ℕ → ℕ → List Item
head_items t code = named_head t (name_in icmp6_types t) code (icmp6_code_name t code)

-- ---- echoes, and what is not read

-- an echo of this type, whose code is 0
abbrev pub echo_items : ℕ → ℕ → ℕ → List ℕ → List Item
echo_items t ident seq_no d = head_items t 0 ++ behind_echo ident seq_no d

-- Why a message of 8 octets or more is refused: of those that are told by their fields node information may be.
abbrev pub refusal : List ℕ → Option Refusal
refusal bytes =
    if byte_of type_field bytes == 139 then node.wrong_node bytes
    else if byte_of type_field bytes == 140 then node.wrong_reply bytes
    else None

-- one that has its fields, by its type: these, or else the octets behind its checksum
abbrev pub told_items : Bool → List ℕ → List Item
told_items is_whole bytes =
    if byte_of type_field bytes == 139 then node.query_items bytes
    else if byte_of type_field bytes == 140 then node.reply_items bytes
    else if byte_of type_field bytes == 160 then extended.request_items is_whole bytes
    else if byte_of type_field bytes == 161 then extended.reply_items bytes
    else behind_checksum bytes

-- one that is refused: what there is of one whose entries are cut short, or else its octets; and why
abbrev pub told_or_refused : Option Refusal → Bool → List ℕ → List Item
told_or_refused None is_whole bytes = told_items is_whole bytes
told_or_refused (Some reason.Cut) is_whole bytes = told_items is_whole bytes ++ why_items reason.Cut
told_or_refused (Some why) is_whole bytes = refused_items bytes why

-- how it is told
abbrev pub is_told : ℕ → Bool
is_told t = (t == 139) || (t == 140) || (t == 160) || (t == 161)

abbrev pub told_as : Option Refusal → Bool → Told
told_as (Some why) known = how.Refused why
told_as None known = if known then how.Fields else how.Octets

abbrev pub told : List ℕ → Told
told bytes =
    if nat_lt (length bytes) 8 then how.Octets else told_as (refusal bytes) (is_told (byte_of type_field bytes))

-- what follows the checksum
abbrev pub behind_items : Bool → List ℕ → List Item
behind_items is_whole bytes =
    if nat_lt (length bytes) 8 then behind_checksum bytes else told_or_refused (refusal bytes) is_whole bytes

-- any message by its type, its code and what follows the checksum; what is shorter than these by its octets
abbrev pub typed_items : Bool → List ℕ → List Item
typed_items is_whole bytes =
    head_items (byte_of type_field bytes) (byte_of code_field bytes) ++ behind_items is_whole bytes

abbrev pub unread_items : Bool → List ℕ → List Item
unread_items is_whole bytes = if nat_lt (length bytes) 4 then rest_items bytes else typed_items is_whole bytes

-- a message that was read in these octets: an echo, or another by its octets
abbrev pub message_items : MessageValue → List ℕ → List Item
message_items (echo_request ident seq_no d) bytes = echo_items 128 ident seq_no d
message_items (echo_reply ident seq_no d) bytes = echo_items 129 ident seq_no d
message_items (unreachable reason quoted d) bytes = unread_items true bytes
message_items (too_big mtu quoted d) bytes = unread_items true bytes
message_items (time_exceeded reason quoted d) bytes = unread_items true bytes
message_items (param_problem reason pointer quoted d) bytes = unread_items true bytes
message_items (ndisc message) bytes = unread_items true bytes
message_items (mld message) bytes = unread_items true bytes

-- ---- errors

-- What the four bytes after the checksum say (RFC 4443 section 3): the MTU of the next link, or the place of what is
-- wrong; of the other types nothing.
abbrev pub told_in_rest : Kind → ErrorValue Kind → List Item
told_in_rest Kind.DstUnreachable v = []
told_in_rest Kind.PktTooBig v = field (codes "mtu") (number v.rest) ∷ []
told_in_rest Kind.TimeExceeded v = []
told_in_rest Kind.ParamProblem v = field (codes "pointer") (number v.rest) ∷ []

-- an error, and this that it quotes, whose headers lead to this
abbrev pub error_items : ErrorValue Kind → Ipv6Quote → Option UpperValue → List Item
error_items v q upper = head_items (kind_number v.kind) v.code ++ told_in_rest v.kind v ++ ipv6_quote_items q upper

-- an error, whole or cut, with the fields of what it quotes, and those of extensions behind these (RFC 4884)
pub record AreErrorItems (is_whole : Bool) (v : ErrorValue Kind) (items : List Item) : Type 0 where
  pub division : Division
  pub divides : IsDivision Family.V6 (length_in v) v.quoted division
  pub quote : Ipv6Quote
  pub quotes : IsIpv6Quote (quoted_in division v.quoted) quote
  pub upper : Option UpperValue
  pub leads : LeadsTo quote.next_header (own_payload quote) upper
  pub behind : List Item
  pub extensions : AreBehind is_whole division behind
  pub items_are : items ≡ error_items v quote upper ++ behind
