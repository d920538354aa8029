-- The records of reports of multicast groups (RFC 3810 section 5.2, RFC 3376 section 4.2), with addresses of 16 or of 4
-- octets; and what queries of the same versions have behind their group.
--
-- +---------------+---------------+-------------------------------+
-- |  record type  | aux data len  |       number of sources       |
-- +---------------+---------------+-------------------------------+
-- | group address, sources, auxiliary data in words of 4 octets
-- +- - - -
use Rattle.std.specs.Prelude.{zero, suc, ◌==◌, ◌||◌, ◌*◌, ◌/◌, ◌%◌, ◌+◌, ◌-◌, ◌^◌, [], ◌∷◌, ◌++◌, Bool, List, None}
use Rattle.std.specs.Prelude.{Option, Some, ℕ, codes, drop}
use Rattle.std.specs.Prelude.{if◌then◌else◌, length, map, nat_lt, take}
use Rattle.wirebase.specs.Bytes.{byte_of, bytes_of, field as at, number_of}
use Rattle.packet_fields.specs.Entries.{hidden_value, keyed_value, octets_entry}
use Rattle.packet_fields.specs.Fields.{Cell, Entry, Item, entries, field, number, octets, text, texts, time, truth}
use Rattle.packet_fields.specs.Labels.{label_text}
use Rattle.packet_fields.specs.Names.{Rows, name_in}
use Rattle.packet_fields.specs.Parts.{behind, parts}
use Rattle.packet_fields.specs.Texts.{address_text, addresses}
use Rattle.neighbor_fields.specs.Lack.{lack_items}
use Rattle.neighbor_fields.specs.Messages.{additional_items, type_in}
use Rattle.neighbor_fields.specs.declared.lack.Lack.{Lack}

-- the types of records (RFC 3810 section 5.2.12, RFC 3376 section 4.2.12)
abbrev pub record_names : Rows
record_names =
    (1, codes "mode_is_include") ∷ (2, codes "mode_is_exclude") ∷ (3, codes "change_to_include_mode")
    ∷ (4, codes "change_to_exclude_mode") ∷ (5, codes "allow_new_sources") ∷ (6, codes "block_old_sources") ∷ []

-- ---- one record, whose addresses have `width` octets

-- where its sources end, and how many octets it counts
abbrev pub sources_end : ℕ → List ℕ → ℕ
sources_end width bytes = 4 + width + width * number_of (at 2 4) bytes

abbrev pub counted_len : ℕ → List ℕ → ℕ
counted_len width bytes = sources_end width bytes + 4 * byte_of (at 1 2) bytes

-- the octets of the first record; all octets where it is cut
abbrev pub record_len : ℕ → List ℕ → ℕ
record_len width bytes =
    if nat_lt (length bytes) 4 then length bytes
    else if nat_lt (length bytes) (counted_len width bytes) then length bytes
    else counted_len width bytes

abbrev pub label_of : ℕ → List ℕ
label_of t = label_text (name_in record_names t) (codes "record") t

-- a record that is cut, by its octets
abbrev pub cut_entry : List ℕ → Entry
cut_entry bytes =
    octets_entry (codes "record") (label_of (type_in bytes)) (drop 1 bytes)
    (Some (codes "fewer bytes than the record counts")) (type_in bytes)

-- auxiliary data, where there is any
abbrev pub aux_cells : List ℕ → List Cell
aux_cells [] = []
aux_cells (b ∷ bs) = keyed_value (codes "aux_data") (octets (b ∷ bs))

abbrev pub source_cells : ℕ → List ℕ → List Cell
source_cells width bytes =
    keyed_value (codes "sources") (texts (addresses width (bytes_of (at (4 + width) (sources_end width bytes)) bytes)))

abbrev pub whole_entry : ℕ → List ℕ → Entry
whole_entry width bytes = record {
  label_key = codes "record";
  label = label_of (type_in bytes);
  first_key = codes "group_addr";
  first = text (address_text (bytes_of (at 4 (4 + width)) bytes));
  rest =
      source_cells width bytes ++ aux_cells (drop (sources_end width bytes) bytes)
      ++ hidden_value (codes "type") (type_in bytes);
}

abbrev pub record_entry : ℕ → List ℕ → Entry
record_entry width bytes =
    if nat_lt (length bytes) 4 then cut_entry bytes
    else if length bytes == counted_len width bytes then whole_entry width bytes
    else cut_entry bytes

-- ---- `count` records, that fewer of them are whole, where that is so, and what stands behind them

abbrev pub is_cut : ℕ → List ℕ → Bool
is_cut width bytes = nat_lt (length bytes) 4 || nat_lt (length bytes) (counted_len width bytes)

abbrev pub records_lack : ℕ → ℕ → List ℕ → Option Lack
records_lack width zero bytes = None
records_lack width (suc count) bytes =
    if is_cut width bytes then Some Lack.Records
    else records_lack width count (drop (counted_len width bytes) bytes)

abbrev pub records_items : ℕ → ℕ → List ℕ → List Item
records_items width count bytes =
    (entries (codes "records") (map (record_entry width) (parts (record_len width) count bytes)) ∷ [])
    ++ lack_items (records_lack width count bytes) ++ additional_items (behind (record_len width) count bytes)

-- ---- the whole ones of `count` sources of a query, that they are fewer, where that is so, and what stands behind them

abbrev pub sources_lack : ℕ → ℕ → List ℕ → Option Lack
sources_lack width count bytes = if nat_lt (length bytes) (width * count) then Some Lack.Sources else None

-- the octets of those that are whole
abbrev pub whole_len : ℕ → ℕ → List ℕ → ℕ
whole_len width count bytes =
    if nat_lt (length bytes) (width * count) then length bytes - length bytes % width else width * count

abbrev pub sources_items : ℕ → ℕ → List ℕ → List Item
sources_items width count bytes =
    (field (codes "sources") (texts (addresses width (take (whole_len width count bytes) bytes))) ∷ [])
    ++ lack_items (sources_lack width count bytes) ++ additional_items (drop (whole_len width count bytes) bytes)

-- ---- codes

-- A number below 128 is its own code. From there on the last four bits of a code, with a one before them, are a
-- mantissa and the three bits above those, plus 3, an exponent (RFC 3376 sections 4.1.1 and 4.1.7, RFC 3810 section
-- 5.1.9).
abbrev pub code_number : ℕ → ℕ
code_number code = if nat_lt code 128 then code else (16 + code % 16) * 2 ^ (code / 16 % 8 + 3)

-- the same with 12 bits of mantissa, for numbers from 32,768 on (RFC 3810 section 5.1.3)
abbrev pub long_code_number : ℕ → ℕ
long_code_number code = if nat_lt code 32768 then code else (4096 + code % 4096) * 2 ^ (code / 4096 % 8 + 3)

-- What a query says of its querier: a flag, three bits, and the code of its interval in seconds (RFC 3810 sections
-- 5.1.7 to 5.1.9, RFC 3376 sections 4.1.5 to 4.1.7).
abbrev pub querier_items : ℕ → ℕ → List Item
querier_items flags code =
    field (codes "s_flag") (truth (flags / 8 % 2 == 1))
    ∷ field (codes "qrv") (number (flags % 8))
    ∷ field (codes "qqic") (number code)
    ∷ field (codes "querier_query_interval") (time (1000 * code_number code)) ∷ []
