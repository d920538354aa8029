-- Messages of neighbor discovery (RFC 4861 section 4), as fields.
use Rattle.std.specs.Prelude.{◌==◌, ◌*◌, ◌/◌, ◌%◌, [], ◌∷◌, ◌++◌, List, ℕ, codes, drop, if◌then◌else◌, length, nat_lt}
use Rattle.wirebase.specs.Bytes.{byte_of, bytes_of, field as at, number_of}
use Rattle.packet_fields.specs.Fields.{Item, field, named, number, text, texts, time}
use Rattle.packet_fields.specs.Names.{Rows, name_in}
use Rattle.packet_fields.specs.Texts.{address_text, flag_names}
use Rattle.neighbor_fields.specs.Messages.{cut_items, head_items, type_in}
use Rattle.neighbor_fields.specs.NdiscOptions.{options_items, preference_names}
pub use Rattle.neighbor_fields.specs.NdiscOptions.{option_len, prefix_text, refusal, wrong_form}

-- ---- names

-- The flags of advertisements, each by its bit; bits without a name by their number. Those of a router are of RFC 4861
-- section 4.2, RFC 6275 section 7.1 and RFC 4389 section 4.1.3.3, and leave out the bits of its preference; those of a
-- neighbor of RFC 4861 section 4.4.
unfoldable pub router_flags : Rows
router_flags =
    (0x80, codes "managed") ∷ (0x40, codes "other") ∷ (0x20, codes "home_agent") ∷ (0x04, codes "proxy")
    ∷ (0x02, codes "0x02") ∷ (0x01, codes "0x01") ∷ []

unfoldable pub neighbor_flags : Rows
neighbor_flags =
    (0x80, codes "router") ∷ (0x40, codes "solicited") ∷ (0x20, codes "override") ∷ (0x10, codes "0x10")
    ∷ (0x08, codes "0x08") ∷ (0x04, codes "0x04") ∷ (0x02, codes "0x02") ∷ (0x01, codes "0x01") ∷ []

-- ---- messages, by all octets from the type on

abbrev pub flags_items : Rows → ℕ → List Item
flags_items rows bits = field (codes "flags") (texts (flag_names rows bits)) ∷ []

abbrev pub preference_items : ℕ → List Item
preference_items n = named (codes "preference") n (name_in preference_names n) ∷ []

-- the fields of a router advertisement; its lifetime is in seconds, its times in milliseconds
abbrev pub router_items : List ℕ → List Item
router_items bytes =
    (field (codes "hop_limit") (number (byte_of (at 4 5) bytes)) ∷ [])
    ++ flags_items router_flags (byte_of (at 5 6) bytes)
    ++ preference_items (byte_of (at 5 6) bytes / 8 % 4)
    ++ (field (codes "router_lifetime") (time (1000 * number_of (at 6 8) bytes))
    ∷ field (codes "reachable_time") (time (number_of (at 8 12) bytes))
    ∷ field (codes "retrans_time") (time (number_of (at 12 16) bytes)) ∷ [])

abbrev pub target_items : List ℕ → List Item
target_items bytes = field (codes "target_addr") (text (address_text (bytes_of (at 8 24) bytes))) ∷ []

abbrev pub neighbor_items : List ℕ → List Item
neighbor_items bytes = flags_items neighbor_flags (byte_of (at 4 5) bytes) ++ target_items bytes

abbrev pub redirect_items : List ℕ → List Item
redirect_items bytes =
    target_items bytes ++ (field (codes "dest_addr") (text (address_text (bytes_of (at 24 40) bytes))) ∷ [])

-- the octets before the options, by the type
abbrev pub header_len : ℕ → ℕ
header_len t = if t == 134 then 16 else if t == 135 then 24 else if t == 136 then 24 else if t == 137 then 40 else 8

abbrev pub fields_items : List ℕ → List Item
fields_items bytes =
    if type_in bytes == 134 then router_items bytes
    else if type_in bytes == 135 then target_items bytes
    else if type_in bytes == 136 then neighbor_items bytes
    else if type_in bytes == 137 then redirect_items bytes
    else []

-- what follows the checksum
abbrev pub body_items : List ℕ → List Item
body_items bytes =
    if nat_lt (length bytes) (header_len (type_in bytes)) then cut_items (drop 4 bytes)
    else fields_items bytes ++ options_items (drop (header_len (type_in bytes)) bytes)

abbrev pub message_items : List ℕ → List Item
message_items bytes = if nat_lt (length bytes) 4 then cut_items bytes else head_items bytes ++ body_items bytes
