-- Messages of multicast listener discovery, versions 1 and 2 (RFC 2710 section 3, RFC 3810 section 5), as fields.
use Rattle.std.specs.Prelude.{◌==◌, [], ◌∷◌, ◌++◌, List, None, Option, Some, ℕ, codes, drop, if◌then◌else◌, length, nat_lt}
use Rattle.wirebase.specs.Bytes.{byte_of, bytes_of, field as at, number_of}
use Rattle.packet_fields.specs.Fields.{Item, field, number, octets, text, time}
use Rattle.packet_fields.specs.Texts.{address_text}
use Rattle.neighbor_fields.specs.Messages.{additional_items, cut_items, head_items, type_in}
use Rattle.neighbor_fields.specs.Records.{long_code_number, querier_items, records_items, records_lack}
use Rattle.neighbor_fields.specs.Records.{sources_items, sources_lack}
use Rattle.neighbor_fields.specs.declared.lack.Lack.{Lack}

abbrev pub group_items : List ℕ → List Item
group_items bytes = field (codes "mcast_addr") (text (address_text (bytes_of (at 8 24) bytes))) ∷ []

-- a message of version 1; its delay is in milliseconds
abbrev pub version_1_items : List ℕ → List Item
version_1_items bytes =
    (field (codes "version") (number 1) ∷ field (codes "max_resp_delay") (time (number_of (at 4 6) bytes)) ∷ [])
    ++ group_items bytes ++ additional_items (drop 24 bytes)

-- a query of version 2, whose code stands for milliseconds
abbrev pub query_front : List ℕ → List Item
query_front bytes =
    (field (codes "version") (number 2) ∷ field (codes "max_resp_code") (number (number_of (at 4 6) bytes))
    ∷ field (codes "max_resp_delay") (time (long_code_number (number_of (at 4 6) bytes))) ∷ []) ++ group_items bytes

abbrev pub query_items : List ℕ → List Item
query_items bytes =
    query_front bytes ++ querier_items (byte_of (at 24 25) bytes) (byte_of (at 25 26) bytes)
    ++ sources_items 16 (number_of (at 26 28) bytes) (drop 28 bytes)

-- a query, by its length (RFC 3810 section 8.1)
abbrev pub any_query_items : List ℕ → List Item
any_query_items bytes =
    if length bytes == 24 then version_1_items bytes
    else if nat_lt (length bytes) 28 then cut_items (drop 4 bytes)
    else query_items bytes

-- a report or done of version 1
abbrev pub old_items : List ℕ → List Item
old_items bytes = if nat_lt (length bytes) 24 then cut_items (drop 4 bytes) else version_1_items bytes

-- a report of version 2
abbrev pub counted_items : List ℕ → List Item
counted_items bytes =
    (field (codes "version") (number 2) ∷ [])
    ++ records_items 16 (number_of (at 6 8) bytes) (drop 8 bytes)

abbrev pub report_items : List ℕ → List Item
report_items bytes = if nat_lt (length bytes) 8 then cut_items (drop 4 bytes) else counted_items bytes

-- what follows the checksum; of a message of another type its octets
abbrev pub body_items : List ℕ → List Item
body_items bytes =
    if type_in bytes == 130 then any_query_items bytes
    else if type_in bytes == 131 then old_items bytes
    else if type_in bytes == 132 then old_items bytes
    else if type_in bytes == 143 then report_items bytes
    else field (codes "data") (octets (drop 4 bytes)) ∷ []

abbrev pub message_items : List ℕ → List Item
message_items bytes = if nat_lt (length bytes) 4 then cut_items bytes else head_items bytes ++ body_items bytes

-- ---- of what a message has less than it takes or counts

abbrev pub query_lack : List ℕ → Option Lack
query_lack bytes = sources_lack 16 (number_of (at 26 28) bytes) (drop 28 bytes)

abbrev pub any_query_lack : List ℕ → Option Lack
any_query_lack bytes =
    if length bytes == 24 then None
    else if nat_lt (length bytes) 28 then Some Lack.Fields
    else query_lack bytes

abbrev pub old_lack : List ℕ → Option Lack
old_lack bytes = if nat_lt (length bytes) 24 then Some Lack.Fields else None

abbrev pub counted_lack : List ℕ → Option Lack
counted_lack bytes = records_lack 16 (number_of (at 6 8) bytes) (drop 8 bytes)

abbrev pub report_lack : List ℕ → Option Lack
report_lack bytes = if nat_lt (length bytes) 8 then Some Lack.Fields else counted_lack bytes

abbrev pub body_lack : List ℕ → Option Lack
body_lack bytes =
    if type_in bytes == 130 then any_query_lack bytes
    else if type_in bytes == 131 then old_lack bytes
    else if type_in bytes == 132 then old_lack bytes
    else if type_in bytes == 143 then report_lack bytes
    else None

abbrev pub message_lack : List ℕ → Option Lack
message_lack bytes = if nat_lt (length bytes) 4 then Some Lack.Fields else body_lack bytes
