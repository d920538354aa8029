-- Messages of the Internet Group Management Protocol, versions 1 to 3 (RFC 1112 appendix I, RFC 2236 section 2, RFC
-- 3376 section 4), as fields.
use Rattle.std.specs.Prelude.{◌==◌, ◌*◌, [], ◌∷◌, ◌++◌, List, None, Option, Some, ℕ, codes, drop, if◌then◌else◌, length}
use Rattle.std.specs.Prelude.{nat_lt}
use Rattle.wirebase.specs.Bytes.{byte_of, bytes_of, field as at, number_of}
use Rattle.packet_fields.specs.Fields.{Item, field, named, number, octets, text, time}
use Rattle.packet_fields.specs.Names.{Rows, name_in}
use Rattle.packet_fields.specs.Texts.{address_text}
use Rattle.neighbor_fields.specs.Messages.{additional_items, code_in, cut_items, type_in}
use Rattle.neighbor_fields.specs.Records.{code_number, querier_items, records_items, records_lack}
use Rattle.neighbor_fields.specs.Records.{sources_items, sources_lack}
use Rattle.neighbor_fields.specs.declared.lack.Lack.{Lack}

-- IANA's registry of the types of IGMP
abbrev pub type_names : Rows
type_names =
    (0x11, codes "membership_query") ∷ (0x12, codes "membership_report_v1") ∷ (0x13, codes "dvmrp")
    ∷ (0x14, codes "pim_v1") ∷ (0x15, codes "cisco_trace") ∷ (0x16, codes "membership_report_v2")
    ∷ (0x17, codes "leave_group") ∷ (0x1e, codes "mtrace_response") ∷ (0x1f, codes "mtrace")
    ∷ (0x22, codes "membership_report_v3") ∷ (0x30, codes "multicast_router_advertisement")
    ∷ (0x31, codes "multicast_router_solicitation") ∷ (0x32, codes "multicast_router_termination") ∷ []

abbrev pub head_items : List ℕ → List Item
head_items bytes = named (codes "type") (type_in bytes) (name_in type_names (type_in bytes)) ∷ []

abbrev pub group_items : List ℕ → List Item
group_items bytes = field (codes "group_addr") (text (address_text (bytes_of (at 4 8) bytes))) ∷ []

-- what a query of any version has: the version, a code, the tenths of a second that this stands for, and the group
abbrev pub query_front : ℕ → ℕ → List ℕ → List Item
query_front version tenths bytes =
    (field (codes "version") (number version) ∷ field (codes "max_resp_code") (number (code_in bytes))
    ∷ field (codes "max_resp_time") (time (100 * tenths)) ∷ []) ++ group_items bytes

-- a query of version 1 or 2, whose code counts tenths of a second (RFC 2236 section 2.2); and one of version 3
abbrev pub old_query_items : ℕ → List ℕ → List Item
old_query_items version bytes = query_front version (code_in bytes) bytes

abbrev pub query_items : List ℕ → List Item
query_items bytes =
    query_front 3 (code_number (code_in bytes)) bytes
    ++ querier_items (byte_of (at 8 9) bytes) (byte_of (at 9 10) bytes)
    ++ sources_items 4 (number_of (at 10 12) bytes) (drop 12 bytes)

-- a query, by its length and code (RFC 3376 section 7.1)
abbrev pub any_query_items : List ℕ → List Item
any_query_items bytes =
    if length bytes == 8 then old_query_items (if code_in bytes == 0 then 1 else 2) bytes
    else if nat_lt (length bytes) 12 then cut_items (drop 4 bytes)
    else query_items bytes

-- a report of version 1 or 2, or a leave
abbrev pub group_message_items : ℕ → List ℕ → List Item
group_message_items version bytes =
    (field (codes "version") (number version) ∷ []) ++ group_items bytes ++ additional_items (drop 8 bytes)

abbrev pub report_items : List ℕ → List Item
report_items bytes =
    (field (codes "version") (number 3) ∷ [])
    ++ records_items 4 (number_of (at 6 8) bytes) (drop 8 bytes)

-- any other message, by its code and the octets behind the checksum
abbrev pub other_items : List ℕ → List Item
other_items bytes = field (codes "code") (number (code_in bytes)) ∷ field (codes "data") (octets (drop 4 bytes)) ∷ []

-- a message that counts nothing
abbrev pub uncounted_items : List ℕ → List Item
uncounted_items bytes =
    if type_in bytes == 0x12 then group_message_items 1 bytes
    else if type_in bytes == 0x16 then group_message_items 2 bytes
    else if type_in bytes == 0x17 then group_message_items 2 bytes
    else other_items bytes

-- what follows the type of 8 octets or more
abbrev pub body_items : List ℕ → List Item
body_items bytes =
    if type_in bytes == 0x11 then any_query_items bytes
    else if type_in bytes == 0x22 then report_items bytes
    else uncounted_items bytes

abbrev pub message_items : List ℕ → List Item
message_items bytes = if nat_lt (length bytes) 8 then cut_items bytes else head_items bytes ++ body_items bytes

-- ---- of what a message has less than it takes or counts

abbrev pub query_lack : List ℕ → Option Lack
query_lack bytes = sources_lack 4 (number_of (at 10 12) bytes) (drop 12 bytes)

abbrev pub any_query_lack : List ℕ → Option Lack
any_query_lack bytes =
    if length bytes == 8 then None
    else if nat_lt (length bytes) 12 then Some Lack.Fields
    else query_lack bytes

abbrev pub report_lack : List ℕ → Option Lack
report_lack bytes = records_lack 4 (number_of (at 6 8) bytes) (drop 8 bytes)

abbrev pub body_lack : List ℕ → Option Lack
body_lack bytes =
    if type_in bytes == 0x11 then any_query_lack bytes
    else if type_in bytes == 0x22 then report_lack bytes
    else None

abbrev pub message_lack : List ℕ → Option Lack
message_lack bytes = if nat_lt (length bytes) 8 then Some Lack.Fields else body_lack bytes
