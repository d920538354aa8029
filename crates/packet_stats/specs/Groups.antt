-- What reports of multicast groups say: which hosts are in which groups, and from which sources they want them (RFC
-- 2236, RFC 3376, RFC 2710, RFC 3810).
use Rattle.std.specs.Prelude.{◌==◌, ◌&&◌, ◌||◌, ◌+◌, ◌++◌, [], ◌∷◌, Bool, List, ℕ, drop, flat_map}
use Rattle.std.specs.Prelude.{if◌then◌else◌, length, nat_le, false, nat_lt, true}
use Rattle.wirebase.specs.Bytes.{bytes_of, field as at, number_of}
use Rattle.packet_fields.specs.Parts.{parts}
use Rattle.neighbor_fields.specs.Messages.{type_in}
use Rattle.neighbor_fields.specs.Records.{counted_len, record_len}
use Rattle.packet_stats.specs.Row.{MentionValue, said_of}
use Rattle.packet_stats.specs.Subject.{member, source}
use Rattle.packet_stats.specs.Types.{FilterMode}

-- a host is in a group
unfoldable pub group_said : List ℕ → List ℕ → List MentionValue
group_said group host = said_of (member group host) ∷ []

-- a host wants a source of a group, or excludes it
unfoldable pub source_said : List ℕ → List ℕ → FilterMode → List ℕ → List MentionValue
source_said group host mode address = said_of (source group host mode address) ∷ []

-- ---- records, whose addresses have `width` octets

abbrev pub is_whole_record : ℕ → List ℕ → Bool
is_whole_record width bytes = nat_le 4 (length bytes) && (length bytes == counted_len width bytes)

-- A host is in a group of which it wants all sources but some (types 2 and 4), or some (types 1, 3 and 5). A record of
-- no source that is wanted says that it is not, and one of sources that are no more wanted (type 6) says nothing of it.
abbrev pub tells_member : ℕ → ℕ → Bool
tells_member t sources =
    if (t == 2) || (t == 4) then true
    else if (t == 1) || ((t == 3) || (t == 5)) then nat_lt 0 sources
    else false

-- nothing of a record that is cut
abbrev pub is_member : ℕ → List ℕ → Bool
is_member width bytes =
    if is_whole_record width bytes then tells_member (type_in bytes) (number_of (at 2 4) bytes) else false

abbrev pub group_in : ℕ → List ℕ → List ℕ
group_in width bytes = bytes_of (at 4 (4 + width)) bytes

-- types 2 and 4 have the sources that are excluded, and types 1, 3 and 5 those that are wanted
abbrev pub mode_of : ℕ → FilterMode
mode_of t = if (t == 2) || (t == 4) then FilterMode.Exclude else FilterMode.Include

-- so many sources one behind another
abbrev pub sources_said : ℕ → List ℕ → List ℕ → FilterMode → ℕ → List ℕ → List MentionValue
sources_said width group host mode count bytes =
    flat_map (source_said group host mode) (parts (λ left. width) count bytes)

-- each source that a record counts, behind its group
abbrev pub filter_said : ℕ → List ℕ → List ℕ → List MentionValue
filter_said width host bytes =
    sources_said width (group_in width bytes) host (mode_of (type_in bytes)) (number_of (at 2 4) bytes)
    (drop (4 + width) bytes)

-- the host that is in the group, and its sources
abbrev pub record_said : ℕ → List ℕ → List ℕ → List MentionValue
record_said width host bytes =
    if is_member width bytes
    then group_said (group_in width bytes) host ++ filter_said width host bytes
    else []

-- so many records, or as many as there are
abbrev pub records_said : ℕ → List ℕ → ℕ → List ℕ → List MentionValue
records_said width host count bytes = flat_map (record_said width host) (parts (record_len width) count bytes)

-- a report of IGMPv3 or MLDv2, by all octets from the type on
abbrev pub report_said : ℕ → List ℕ → List ℕ → List MentionValue
report_said width host bytes = records_said width host (number_of (at 6 8) bytes) (drop 8 bytes)

-- ---- messages from a host

-- IGMP: reports of versions 1 and 2 (types 0x12 and 0x16) have one group (RFC 2236 section 2)
abbrev pub body4_said : List ℕ → List ℕ → List MentionValue
body4_said host bytes =
    if (type_in bytes == 0x12) || (type_in bytes == 0x16)
    then group_said (bytes_of (at 4 8) bytes) host
    else if type_in bytes == 0x22 then report_said 4 host bytes
    else []

abbrev pub igmp_said : List ℕ → List ℕ → List MentionValue
igmp_said host bytes = if nat_lt (length bytes) 8 then [] else body4_said host bytes

-- multicast listener discovery: a report of version 1 (type 131) has one group (RFC 2710 section 3)
abbrev pub old_said : List ℕ → List ℕ → List MentionValue
old_said host bytes =
    if nat_lt (length bytes) 24 then [] else group_said (bytes_of (at 8 24) bytes) host

abbrev pub new_said : List ℕ → List ℕ → List MentionValue
new_said host bytes = if nat_lt (length bytes) 8 then [] else report_said 16 host bytes
