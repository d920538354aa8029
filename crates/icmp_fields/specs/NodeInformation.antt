-- Queries about a node and their answers (RFC 4620), by all octets from the type on.
--
--  0                   1                   2                   3
--  0 1 2 3 4 5 6 7 8 9 0 1 2 3 4 5 6 7 8 9 0 1 2 3 4 5 6 7 8 9 0 1
-- +---------------+---------------+-------------------------------+
-- |     type      |     code      |           checksum            |
-- +---------------+---------------+-------------------------------+
-- |             Qtype             |             flags             |
-- +-------------------------------+-------------------------------+
-- |                                                               |
-- |                        nonce, 8 bytes                         |
-- |                                                               |
-- +---------------------------------------------------------------+
--
-- Data follows: of a query the node that it is about, of an answer what is told; addresses, each after its time to live
-- of 4 bytes, where they are asked for (sections 6.3 and 6.4).
use Rattle.std.specs.Prelude.{◌==◌, ◌&&◌, ◌+◌, ◌*◌, ◌%◌, [], ◌∷◌, ◌++◌, Bool, List, None, Option, Some, ℕ, codes, drop}
use Rattle.std.specs.Prelude.{false, if◌then◌else◌, length, map, nat_lt}
use Rattle.wirebase.specs.Bytes.{byte_of, bytes_of, field as at, number_of}
use Rattle.packet_fields.specs.Entries.{keyed_value}
use Rattle.packet_fields.specs.Fields.{Entry, Item, entries, field, named, octets, text, texts, time}
use Rattle.packet_fields.specs.Names.{Rows as Flags}
use Rattle.packet_fields.specs.Parts.{parts}
use Rattle.packet_fields.specs.Texts.{address_text, flag_names}
use Rattle.icmp_fields.specs.Icmp.{cut_entry}
use Rattle.icmp_fields.specs.Names.{Rows, name_in}
use Rattle.icmp_fields.specs.declared.refusal.Refusal.{Refusal}
use Rattle.icmp_fields.specs.declared.refusal.Refusal.TheVariants as refusal

-- ---- names

-- the types of queries (RFC 4620 section 6)
abbrev pub qtype_names : Rows
qtype_names =
    (0, codes "noop") ∷ (2, codes "node_name") ∷ (3, codes "node_addresses") ∷ (4, codes "ipv4_addresses") ∷ []

-- The flags of queries about addresses and of their answers, each by its bit (RFC 4620 sections 6.3 and 6.4); bits
-- without a name by their number, as those of other types.
unfoldable pub address_flags : Flags
address_flags =
    (0x8000, codes "0x8000") ∷ (0x4000, codes "0x4000") ∷ (0x2000, codes "0x2000") ∷ (0x1000, codes "0x1000")
    ∷ (0x0800, codes "0x0800") ∷ (0x0400, codes "0x0400") ∷ (0x0200, codes "0x0200") ∷ (0x0100, codes "0x0100")
    ∷ (0x0080, codes "0x0080") ∷ (0x0040, codes "0x0040") ∷ (0x0020, codes "global_scope")
    ∷ (0x0010, codes "site_local") ∷ (0x0008, codes "link_local") ∷ (0x0004, codes "compatible")
    ∷ (0x0002, codes "all") ∷ (0x0001, codes "truncated") ∷ []

unfoldable pub other_flags : Flags
other_flags =
    (0x8000, codes "0x8000") ∷ (0x4000, codes "0x4000") ∷ (0x2000, codes "0x2000") ∷ (0x1000, codes "0x1000")
    ∷ (0x0800, codes "0x0800") ∷ (0x0400, codes "0x0400") ∷ (0x0200, codes "0x0200") ∷ (0x0100, codes "0x0100")
    ∷ (0x0080, codes "0x0080") ∷ (0x0040, codes "0x0040") ∷ (0x0020, codes "0x0020") ∷ (0x0010, codes "0x0010")
    ∷ (0x0008, codes "0x0008") ∷ (0x0004, codes "0x0004") ∷ (0x0002, codes "0x0002") ∷ (0x0001, codes "0x0001") ∷ []

-- ---- fields

abbrev pub qtype_in : List ℕ → ℕ
qtype_in bytes = number_of (at 4 6) bytes

abbrev pub named_flags : Flags → ℕ → List Item
named_flags names bits = field (codes "flags") (texts (flag_names names bits)) ∷ []

abbrev pub flags_items : ℕ → ℕ → List Item
flags_items qtype bits =
    if qtype == 3 then named_flags address_flags bits
    else if qtype == 4 then named_flags address_flags bits
    else named_flags other_flags bits

abbrev pub fields_items : List ℕ → List Item
fields_items bytes =
    named (codes "qtype") (qtype_in bytes) (name_in qtype_names (qtype_in bytes)) ∷ []
    ++ flags_items (qtype_in bytes) (number_of (at 6 8) bytes)
    ++ (field (codes "nonce") (octets (bytes_of (at 8 16) bytes)) ∷ [])

-- the node that a query is about, by its data: by the code an address, or a name or nothing (RFC 4620 section 4)
abbrev pub subject_addr_items : List ℕ → List Item
subject_addr_items bytes = field (codes "subject_addr") (text (address_text bytes)) ∷ []

abbrev pub data_items : List ℕ → List Item
data_items bytes = field (codes "data") (octets bytes) ∷ []

abbrev pub address_or_data : ℕ → List ℕ → List Item
address_or_data width bytes = if length bytes == width then subject_addr_items bytes else data_items bytes

abbrev pub subject_items : ℕ → List ℕ → List Item
subject_items code bytes =
    if code == 0 then address_or_data 16 bytes
    else if code == 2 then address_or_data 4 bytes
    else data_items bytes

-- an address of so many octets with its time to live, in seconds; one that is cut by its octets
abbrev pub whole_entry : ℕ → List ℕ → Entry
whole_entry width bytes = record {
  label_key = codes "entry";
  label = codes "address";
  first_key = codes "addr";
  first = text (address_text (bytes_of (at 4 (4 + width)) bytes));
  rest = keyed_value (codes "ttl") (time (1000 * number_of (at 0 4) bytes));
}

abbrev pub cut_address : List ℕ → Entry
cut_address bytes = cut_entry (codes "address") (codes "fewer bytes than an address and its time to live") bytes

abbrev pub address_entry : ℕ → List ℕ → Entry
address_entry width bytes = if nat_lt (length bytes) (4 + width) then cut_address bytes else whole_entry width bytes

abbrev pub entry_len : ℕ → List ℕ → ℕ
entry_len width bytes = if nat_lt (length bytes) (4 + width) then length bytes else 4 + width

abbrev pub addresses_items : ℕ → List ℕ → List Item
addresses_items width bytes =
    entries (codes "addresses") (map (address_entry width) (parts (entry_len width) (length bytes) bytes)) ∷ []

-- the answer: addresses, where it has code 0 and they were asked for; else its data
abbrev pub answer_items : ℕ → ℕ → List ℕ → List Item
answer_items code qtype bytes =
    if (code == 0) && (qtype == 3) then addresses_items 16 bytes
    else if (code == 0) && (qtype == 4) then addresses_items 4 bytes
    else data_items bytes

-- whether its last address is cut
abbrev pub is_cut : ℕ → ℕ → List ℕ → Bool
is_cut code qtype bytes =
    if (code == 0) && (qtype == 3) then nat_lt 0 (length bytes % 20)
    else if (code == 0) && (qtype == 4) then nat_lt 0 (length bytes % 8)
    else false

abbrev pub query_items : List ℕ → List Item
query_items bytes = fields_items bytes ++ subject_items (byte_of (at 1 2) bytes) (drop 16 bytes)

abbrev pub reply_items : List ℕ → List Item
reply_items bytes =
    fields_items bytes ++ answer_items (byte_of (at 1 2) bytes) (qtype_in bytes) (drop 16 bytes)

-- ---- why a message is refused: it ends before its data, or an answer within an address

abbrev pub wrong_node : List ℕ → Option Refusal
wrong_node bytes = if nat_lt (length bytes) 16 then Some refusal.Length else None

abbrev pub wrong_reply : List ℕ → Option Refusal
wrong_reply bytes =
    if nat_lt (length bytes) 16 then Some refusal.Length
    else if is_cut (byte_of (at 1 2) bytes) (qtype_in bytes) (drop 16 bytes) then Some refusal.Cut
    else None
