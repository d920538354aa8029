-- Brief lines of neighbor discovery (RFC 4861 section 4), from the octets of the message.
use Rattle.std.specs.Prelude.{◌==◌, ◌&&◌, ◌-◌, ◌++◌, [], Bool, List, None, Option, Some, ℕ, codes, count_by, decimal}
use Rattle.std.specs.Prelude.{drop, find, if◌then◌else◌, is_none, length, nat_le, nat_lt}
use Rattle.std.specs.List.{list_all}
use Rattle.wirebase.specs.Bytes.{byte_of, bytes_of, field as at, number_of}
use Rattle.wirebase.specs.Hexadecimal.{hex_colons}
use Rattle.packet_fields.specs.Parts.{parts}
use Rattle.packet_fields.specs.Texts.{address_text}
use Rattle.neighbor_fields.specs.Messages.{code_in, type_in}
use Rattle.neighbor_fields.specs.Ndisc.{header_len, option_len, prefix_text, refusal}
use Rattle.message_brief.specs.Icmp.{head6_text}
use Rattle.message_brief.specs.Words.{more_text, word}

-- ---- options

abbrev pub options_in : List ℕ → List (List ℕ)
options_in bytes = parts option_len (length bytes) bytes

abbrev pub is_whole_option : List ℕ → Bool
is_whole_option option = is_none (refusal option)

-- an option of a type that is not refused
abbrev pub is_of : ℕ → List ℕ → Bool
is_of t option = is_whole_option option && (type_in option == t)

-- ---- messages

abbrev pub target_text : List ℕ → List ℕ
target_text bytes = word (address_text (bytes_of (at 8 24) bytes))

-- the link-layer address of a target
abbrev pub link_text : Option (List ℕ) → List ℕ
link_text None = []
link_text (Some option) = codes " = " ++ hex_colons (drop 2 option)

-- the first of n prefixes
abbrev pub prefix_word : List ℕ → List ℕ
prefix_word option = word (prefix_text (bytes_of (at 16 32) option) (byte_of (at 2 3) option))

abbrev pub prefixes_text : Option (List ℕ) → ℕ → List ℕ
prefixes_text None n = []
prefixes_text (Some option) n = prefix_word option ++ more_text (n - 1)

-- a router: for how many seconds it is a default router, and its prefixes
abbrev pub router_text : List ℕ → List ℕ
router_text bytes =
    word (decimal (number_of (at 6 8) bytes) ++ codes "s")
    ++ prefixes_text (find (is_of 3) (options_in (drop 16 bytes))) (count_by (is_of 3) (options_in (drop 16 bytes)))

abbrev pub neighbor_text : List ℕ → List ℕ
neighbor_text bytes = target_text bytes ++ link_text (find (is_of 2) (options_in (drop 24 bytes)))

-- a better way to a destination
abbrev pub redirect_text : List ℕ → List ℕ
redirect_text bytes = word (address_text (bytes_of (at 24 40) bytes)) ++ (codes " via" ++ target_text bytes)

abbrev pub fields_text : List ℕ → List ℕ
fields_text bytes =
    if type_in bytes == 134 then router_text bytes
    else if type_in bytes == 135 then target_text bytes
    else if type_in bytes == 136 then neighbor_text bytes
    else if type_in bytes == 137 then redirect_text bytes
    else []

-- where all of them are there
abbrev pub behind_text : List ℕ → List ℕ
behind_text bytes = if nat_lt (length bytes) (header_len (type_in bytes)) then [] else fields_text bytes

abbrev pub neighbors_text : List ℕ → List ℕ
neighbors_text bytes =
    if nat_lt (length bytes) 4 then [] else head6_text (type_in bytes) (code_in bytes) ++ behind_text bytes

-- whether the fields are there, and no option is refused
abbrev pub is_whole : List ℕ → Bool
is_whole bytes =
    nat_le (header_len (type_in bytes)) (length bytes)
    && list_all is_whole_option (options_in (drop (header_len (type_in bytes)) bytes))
