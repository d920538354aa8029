-- What messages of neighbor discovery say (RFC 4861 section 4): neighbors, and routers with their prefixes.
use Rattle.std.specs.Prelude.{◌==◌, ◌&&◌, ◌||◌, ◌*◌, [], ◌∷◌, ◌++◌, Bool, List, None, Option, Some, ℕ, drop, find}
use Rattle.std.specs.Prelude.{flat_map, if◌then◌else◌, length, nat_le, nat_lt}
use Rattle.std.specs.List.{list_all}
use Rattle.wirebase.specs.Bytes.{byte_of, bytes_of, field as at}
use Rattle.packet_fields.specs.Parts.{parts}
use Rattle.neighbor_fields.specs.Messages.{type_in}
use Rattle.neighbor_fields.specs.Ndisc.{header_len, option_len}
use Rattle.packet_stats.specs.Row.{MentionValue, said_of}
use Rattle.packet_stats.specs.Subject.{neighbor, prefix, router}

-- ---- options

abbrev pub options_in : List ℕ → List (List ℕ)
options_in bytes = parts option_len (length bytes) bytes

-- an option of a type, which counts so many units of 8 octets, and has them
abbrev pub is_of : ℕ → ℕ → List ℕ → Bool
is_of t units option =
    (length option == 8 * units) && ((byte_of (at 0 1) option == t) && (byte_of (at 1 2) option == units))

-- ---- neighbors

-- the link-layer address in an option, which has 6 octets
abbrev pub link_said : List ℕ → Option (List ℕ) → List MentionValue
link_said address None = []
link_said address (Some option) = said_of (neighbor address (bytes_of (at 2 8) option)) ∷ []

-- A neighbor at an address: the first option of a type that has a link-layer address of 6 octets tells it. Nothing is
-- said of one with link-layer addresses of another length.
abbrev pub neighbor_said : ℕ → List ℕ → List ℕ → List MentionValue
neighbor_said t address options = link_said address (find (is_of t 1) (options_in options))

-- the unspecified address is nobody's (RFC 4291 section 2.5.2)
abbrev pub is_unspecified : List ℕ → Bool
is_unspecified address = list_all (λ octet. octet == 0) address

abbrev pub source_said : List ℕ → List ℕ → List MentionValue
source_said source options = if is_unspecified source then [] else neighbor_said 1 source options

-- ---- routers

-- an option with a prefix of a router (RFC 4861 section 4.6.2), of at most the bits of an address
abbrev pub has_prefix : List ℕ → Bool
has_prefix option = is_of 3 4 option && nat_le (byte_of (at 2 3) option) 128

abbrev pub prefix_said : List ℕ → List ℕ → List MentionValue
prefix_said source option =
    if has_prefix option
    then said_of (prefix (bytes_of (at 16 32) option) (byte_of (at 2 3) option) source) ∷ []
    else []

abbrev pub prefixes_said : List ℕ → List ℕ → List MentionValue
prefixes_said source options = flat_map (prefix_said source) (options_in options)

abbrev pub router_said : List ℕ → List ℕ → List MentionValue
router_said source options =
    said_of (router source) ∷ (source_said source options ++ prefixes_said source options)

-- ---- messages, by all octets from the type on

-- solicitations of routers and of neighbors (types 133 and 135) tell their source, and advertisements of neighbors
-- (type 136) their target
abbrev pub fields_said : List ℕ → List ℕ → List ℕ → List MentionValue
fields_said source bytes options =
    if type_in bytes == 134 then router_said source options
    else if type_in bytes == 136 then neighbor_said 2 (bytes_of (at 8 24) bytes) options
    else if (type_in bytes == 133) || (type_in bytes == 135) then source_said source options
    else []

-- a message from a source, whose fields are there
abbrev pub neighbors_said : List ℕ → List ℕ → List MentionValue
neighbors_said source bytes =
    if nat_lt (length bytes) (header_len (type_in bytes)) then []
    else fields_said source bytes (drop (header_len (type_in bytes)) bytes)
