-- Brief lines of IGMP (RFC 2236, RFC 3376) and of multicast listener discovery (RFC 2710, RFC 3810), from the octets of
-- the message.
use Rattle.std.specs.Prelude.{zero, suc, ◌∷◌, ◌==◌, ◌&&◌, ◌||◌, ◌+◌, ◌*◌, ◌-◌, ◌++◌, [], Bool, List, ℕ, codes, decimal, drop, flat_map}
use Rattle.std.specs.Prelude.{if◌then◌else◌, length, min, nat_le, nat_lt, true}
use Rattle.std.specs.List.{list_all}
use Rattle.wirebase.specs.Bytes.{bytes_of, field as at, number_of}
use Rattle.packet_fields.specs.Labels.{label_text}
use Rattle.packet_fields.specs.Names.{name_in}
use Rattle.packet_fields.specs.Parts.{parts}
use Rattle.packet_fields.specs.Texts.{address_text}
use Rattle.neighbor_fields.specs.Igmp.{type_names}
use Rattle.neighbor_fields.specs.Messages.{code_in, type_in}
use Rattle.neighbor_fields.specs.Records.{counted_len, label_of, record_len}
use Rattle.message_brief.specs.Icmp.{type6_text}
use Rattle.message_brief.specs.Words.{keyed, more_text, word}

-- ---- records, whose addresses have `width` octets

abbrev pub is_whole_record : ℕ → List ℕ → Bool
is_whole_record width bytes = nat_le 4 (length bytes) && (length bytes == counted_len width bytes)

-- a type of record, and a group
unfoldable pub named_text : ℕ → List ℕ → List ℕ
named_text t group = keyed (label_of t) (address_text group)

-- Of a group without sources a plus tells that all of them are wanted, and a minus that none is.
abbrev pub plain_text : ℕ → List ℕ → List ℕ
plain_text t group =
    if (t == 2) || (t == 4) then codes " +" ++ address_text group
    else if (t == 1) || (t == 3) then codes " -" ++ address_text group
    else named_text t group

abbrev pub group_text : ℕ → ℕ → List ℕ → List ℕ
group_text t sources group =
    if sources == 0 then plain_text t group else named_text t group

-- nothing of one that is cut
abbrev pub record_text : ℕ → List ℕ → List ℕ
record_text width bytes =
    if is_whole_record width bytes
    then group_text (type_in bytes) (number_of (at 2 4) bytes) (bytes_of (at 4 (4 + width)) bytes)
    else []

-- `count` records, or as many as there are; how many are missing, and whether all are there, none of them cut
abbrev pub records_text : ℕ → ℕ → List ℕ → List ℕ
records_text width count bytes = flat_map (record_text width) (parts (record_len width) count bytes)

abbrev pub missing : (List ℕ → ℕ) → ℕ → List ℕ → ℕ
missing len zero bytes = 0
missing len (suc count) [] = suc count
missing len (suc count) (b ∷ bs) = missing len count (drop (len (b ∷ bs)) (b ∷ bs))

abbrev pub are_whole : ℕ → ℕ → List ℕ → Bool
are_whole width count bytes =
    (missing (record_len width) count bytes == 0)
    && list_all (is_whole_record width) (parts (record_len width) count bytes)

-- a report: the first three of its records, and how many others it counts
abbrev pub report_count : List ℕ → ℕ
report_count bytes = number_of (at 6 8) bytes

unfoldable pub report_text : ℕ → List ℕ → List ℕ
report_text width bytes =
    records_text width (min (report_count bytes) 3) (drop 8 bytes) ++ more_text (report_count bytes - 3)

unfoldable pub is_whole_report : ℕ → List ℕ → Bool
is_whole_report width bytes = are_whole width (min (report_count bytes) 3) (drop 8 bytes)

-- ---- IGMP

unfoldable pub type_word : ℕ → List ℕ
type_word t = word (label_text (name_in type_names t) (codes "type") t)

abbrev pub group4_text : List ℕ → List ℕ
group4_text bytes = word (address_text (bytes_of (at 4 8) bytes))

-- a query has its version by its length and code (RFC 3376 section 7.1)
unfoldable pub version_text : ℕ → List ℕ
version_text version = codes "_v" ++ decimal version

abbrev pub query4_text : List ℕ → List ℕ
query4_text bytes =
    if length bytes == 8 then version_text (if code_in bytes == 0 then 1 else 2) ++ group4_text bytes
    else if nat_lt (length bytes) 12 then []
    else version_text 3 ++ group4_text bytes

abbrev pub has_group4 : ℕ → Bool
has_group4 t = (t == 0x12) || ((t == 0x16) || (t == 0x17))

abbrev pub body4_text : List ℕ → List ℕ
body4_text bytes =
    if type_in bytes == 0x11 then query4_text bytes
    else if has_group4 (type_in bytes) then group4_text bytes
    else if type_in bytes == 0x22 then report_text 4 bytes
    else []

abbrev pub igmp_text : List ℕ → List ℕ
igmp_text bytes = if nat_lt (length bytes) 8 then [] else type_word (type_in bytes) ++ body4_text bytes

-- whether all is there, of a query of version 3 also its sources
abbrev pub is_whole_query4 : List ℕ → Bool
is_whole_query4 bytes =
    (length bytes == 8)
    || (nat_le 12 (length bytes) && nat_le (12 + 4 * number_of (at 10 12) bytes) (length bytes))

abbrev pub is_whole_body4 : List ℕ → Bool
is_whole_body4 bytes =
    if type_in bytes == 0x11 then is_whole_query4 bytes
    else if type_in bytes == 0x22 then is_whole_report 4 bytes
    else true

abbrev pub is_whole4 : List ℕ → Bool
is_whole4 bytes = nat_le 8 (length bytes) && is_whole_body4 bytes

-- ---- multicast listener discovery

abbrev pub group6_text : List ℕ → List ℕ
group6_text bytes = word (address_text (bytes_of (at 8 24) bytes))

-- a query of 24 octets is of version 1 (RFC 3810 section 8.1)
abbrev pub query6_text : List ℕ → List ℕ
query6_text bytes =
    if length bytes == 24 then version_text 1 ++ group6_text bytes
    else if nat_lt (length bytes) 28 then []
    else version_text 2 ++ group6_text bytes

abbrev pub old6_text : List ℕ → List ℕ
old6_text bytes = if nat_lt (length bytes) 24 then [] else group6_text bytes

abbrev pub report6_text : List ℕ → List ℕ
report6_text bytes =
    if nat_lt (length bytes) 8 then [] else report_text 16 bytes

abbrev pub body6_text : List ℕ → List ℕ
body6_text bytes =
    if type_in bytes == 130 then query6_text bytes
    else if type_in bytes == 143 then report6_text bytes
    else old6_text bytes

-- The code is not told, since receivers ignore it (RFC 3810 section 5.1.1).
abbrev pub mld_text : List ℕ → List ℕ
mld_text bytes =
    if nat_lt (length bytes) 4 then [] else type6_text (type_in bytes) ++ body6_text bytes

abbrev pub is_whole_query6 : List ℕ → Bool
is_whole_query6 bytes =
    (length bytes == 24)
    || (nat_le 28 (length bytes) && nat_le (28 + 16 * number_of (at 26 28) bytes) (length bytes))

abbrev pub is_whole_report6 : List ℕ → Bool
is_whole_report6 bytes = nat_le 8 (length bytes) && is_whole_report 16 bytes

abbrev pub is_whole_body6 : List ℕ → Bool
is_whole_body6 bytes =
    if type_in bytes == 130 then is_whole_query6 bytes
    else if type_in bytes == 143 then is_whole_report6 bytes
    else nat_le 24 (length bytes)

abbrev pub is_whole6 : List ℕ → Bool
is_whole6 bytes = nat_le 4 (length bytes) && is_whole_body6 bytes
