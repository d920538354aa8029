-- Brief lines of ICMPv4 (RFC 792) and ICMPv6 (RFC 4443), from the octets of the message.
use Rattle.std.specs.Prelude.{◌==◌, ◌&&◌, ◌||◌, ◌-◌, ◌++◌, [], Bool, List, None, Option, Some, ℕ, codes, decimal}
use Rattle.std.specs.Prelude.{if◌then◌else◌, length, nat_le, nat_lt, not}
use Rattle.wirebase.specs.Bytes.{byte_of, bytes_of, field as at, number_of}
use Rattle.wirebase.specs.Icmp.{data_in, ident_field, seq_no_field}
use Rattle.extension_wire.specs.declared.family.Family.{Family}
use Rattle.packet_fields.specs.Labels.{label_text}
use Rattle.packet_fields.specs.Texts.{address_text}
use Rattle.icmp_fields.specs.IcmpNames.{icmp4_code_name, icmp4_types, icmp6_code_name, icmp6_types}
use Rattle.icmp_fields.specs.Names.{name_in}
use Rattle.neighbor_fields.specs.Messages.{code_in, type_in}
use Rattle.message_brief.specs.Quote.{quote4_text, quote6_text, quoted_part, quotes4, quotes6}
use Rattle.message_brief.specs.Words.{keyed, word}

-- ---- what both versions have

abbrev pub type_text : Option (List ℕ) → ℕ → List ℕ
type_text name t = word (label_text name (codes "type") t)

-- the code, where it has a name or is not 0
abbrev pub code_text : Option (List ℕ) → ℕ → List ℕ
code_text None code = if code == 0 then [] else keyed (codes "code") (decimal code)
code_text (Some name) code = word name

-- the type and the code
abbrev pub head_text : Option (List ℕ) → ℕ → Option (List ℕ) → ℕ → List ℕ
head_text type_name t code_name code = type_text type_name t ++ code_text code_name code

-- an echo: its identifier, its sequence number, and how many octets of data it has
abbrev pub echo_text : List ℕ → List ℕ
echo_text bytes =
    word (decimal (number_of ident_field bytes))
    ++ (word (decimal (number_of seq_no_field bytes)) ++ keyed (codes "len") (decimal (length bytes - 8)))

-- the MTU of the next link, where an error tells it
abbrev pub mtu_text : ℕ → List ℕ
mtu_text mtu = if mtu == 0 then [] else keyed (codes "mtu") (decimal mtu)

-- ---- ICMPv4

unfoldable pub head4_text : ℕ → ℕ → List ℕ
head4_text t code = head_text (name_in icmp4_types t) t (icmp4_code_name t code) code

abbrev pub is_echo4 : ℕ → Bool
is_echo4 t = (t == 0) || (t == 8)

abbrev pub is_error4 : ℕ → Bool
is_error4 t = (t == 3) || ((t == 4) || ((t == 5) || ((t == 11) || (t == 12))))

-- what the four octets behind the checksum of an error tell: the MTU (RFC 1191 section 4), the better gateway, and the
-- place of what is wrong
abbrev pub told4 : List ℕ → List ℕ
told4 bytes =
    if type_in bytes == 3 then (if code_in bytes == 4 then mtu_text (number_of (at 6 8) bytes) else [])
    else if type_in bytes == 5 then keyed (codes "gateway") (address_text (bytes_of (at 4 8) bytes))
    else if type_in bytes == 12 then keyed (codes "pointer") (decimal (byte_of (at 4 5) bytes))
    else []

-- the length of what an error quotes (RFC 4884 section 4), 0 in types that have none
abbrev pub length4 : List ℕ → ℕ
length4 bytes =
    if (type_in bytes == 3) || ((type_in bytes == 11) || (type_in bytes == 12)) then byte_of (at 5 6) bytes else 0

abbrev pub quoted4 : List ℕ → List ℕ
quoted4 bytes = quoted_part Family.V4 (length4 bytes) (data_in bytes)

abbrev pub body4_text : List ℕ → List ℕ
body4_text bytes =
    if is_echo4 (type_in bytes) then echo_text bytes
    else if is_error4 (type_in bytes) then told4 bytes ++ quote4_text (quoted4 bytes)
    else []

-- as far as the octets go: the first 4 have the type and the code, and 8 all that is told of the header
abbrev pub behind4_text : List ℕ → List ℕ
behind4_text bytes = if nat_lt (length bytes) 8 then [] else body4_text bytes

abbrev pub icmp4_text : List ℕ → List ℕ
icmp4_text bytes =
    if nat_lt (length bytes) 4 then [] else head4_text (type_in bytes) (code_in bytes) ++ behind4_text bytes

-- whether all of that is there, and an error quotes the front of a datagram
abbrev pub is_whole4 : List ℕ → Bool
is_whole4 bytes = nat_le 8 (length bytes) && (not (is_error4 (type_in bytes)) || quotes4 (quoted4 bytes))

-- ---- ICMPv6

unfoldable pub type6_text : ℕ → List ℕ
type6_text t = type_text (name_in icmp6_types t) t

unfoldable pub head6_text : ℕ → ℕ → List ℕ
head6_text t code = head_text (name_in icmp6_types t) t (icmp6_code_name t code) code

abbrev pub is_echo6 : ℕ → Bool
is_echo6 t = (t == 128) || (t == 129)

abbrev pub is_error6 : ℕ → Bool
is_error6 t = nat_le 1 t && nat_le t 4

abbrev pub told6 : List ℕ → List ℕ
told6 bytes =
    if type_in bytes == 2 then mtu_text (number_of (at 4 8) bytes)
    else if type_in bytes == 4 then keyed (codes "pointer") (decimal (number_of (at 4 8) bytes))
    else []

abbrev pub length6 : List ℕ → ℕ
length6 bytes = if (type_in bytes == 1) || (type_in bytes == 3) then byte_of (at 4 5) bytes else 0

abbrev pub quoted6 : List ℕ → List ℕ
quoted6 bytes = quoted_part Family.V6 (length6 bytes) (data_in bytes)

abbrev pub body6_text : List ℕ → List ℕ
body6_text bytes =
    if is_echo6 (type_in bytes) then echo_text bytes
    else if is_error6 (type_in bytes) then told6 bytes ++ quote6_text (quoted6 bytes)
    else []

abbrev pub behind6_text : List ℕ → List ℕ
behind6_text bytes = if nat_lt (length bytes) 8 then [] else body6_text bytes

abbrev pub icmp6_text : List ℕ → List ℕ
icmp6_text bytes =
    if nat_lt (length bytes) 4 then [] else head6_text (type_in bytes) (code_in bytes) ++ behind6_text bytes

abbrev pub is_whole6 : List ℕ → Bool
is_whole6 bytes = nat_le 8 (length bytes) && (not (is_error6 (type_in bytes)) || quotes6 (quoted6 bytes))
