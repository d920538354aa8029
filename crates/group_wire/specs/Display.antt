-- The printed texts of messages about groups and their parts.
use Rattle.std.specs.Prelude.{ℕ, List, [], ◌∷◌, ◌++◌, codes, decimal, flat_map, slice_index}
use Rattle.std.specs.Net.Addr.{segments_of}
use Rattle.std.specs.Net.Text.{hex_groups_text}
use Rattle.wirebase.specs.Display.{pieces, truth_text}
use Rattle.wirebase.specs.Hexadecimal.{octets_text}
use Rattle.icmp6_wire.specs.MldDisplay.{record_type_display}
use Rattle.group_wire.specs.declared.family.Family.{Family}
use Rattle.group_wire.specs.declared.refusal.Refusal.{Refusal}
use Rattle.group_wire.specs.Family.{width}
use Rattle.group_wire.specs.Membership.{Value, older_query, query, oldest_report, older_report, leave, report}
use Rattle.group_wire.specs.Record.{RecordValue, group_record, record_in}
use Rattle.group_wire.specs.Records.{records_ahead}
use Rattle.group_wire.specs.Sources.{sources_in}
use Rattle.group_wire.specs.Times.{version_of}

-- addresses of these octets: in decimal with dots between them, and as eight groups in hexadecimal (RFC 5952)
abbrev pub octets_text_v4 : List ℕ → List ℕ
octets_text_v4 octets =
    decimal (slice_index octets 0) ++ codes "." ++ decimal (slice_index octets 1) ++ codes "."
    ++ decimal (slice_index octets 2) ++ codes "." ++ decimal (slice_index octets 3)

abbrev pub octets_text_v6 : List ℕ → List ℕ
octets_text_v6 octets = hex_groups_text (segments_of octets)

-- addresses with commas between them, and a dash in the place of none
abbrev pub addresses_display : (List ℕ → List ℕ) → List (List ℕ) → List ℕ
addresses_display address [] = codes "-"
addresses_display address (first ∷ more) = address first ++ flat_map (λ one. codes "," ++ address one) more

abbrev pub sources_display : (List ℕ → List ℕ) → ℕ → List ℕ → List ℕ
sources_display address w octets = addresses_display address (sources_in w octets)

-- a protocol, by its name
abbrev pub family_display : Family → List ℕ
family_display Family.Igmp = codes "IGMP"
family_display Family.Mld = codes "MLD"

-- a record: its type, its group, its sources, and its auxiliary data in hexadecimal
abbrev pub record_display : (List ℕ → List ℕ) → ℕ → RecordValue → List ℕ
record_display address w (group_record kind group sources auxiliary) =
    pieces (record_type_display kind
    ∷ codes " group=" ∷ address group
    ∷ codes " sources=" ∷ sources_display address w sources
    ∷ codes " auxiliary=" ∷ octets_text auxiliary ∷ [])

-- records after one another, each in parentheses
abbrev pub records_display : (List ℕ → List ℕ) → ℕ → List (List ℕ) → List ℕ
records_display address w records =
    flat_map (λ one. codes " (" ++ (record_display address w (record_in w one) ++ codes ")")) records

-- a message: its protocol and version, what it is, and its fields
abbrev pub content_display : (List ℕ → List ℕ) → Family → Value → List ℕ
content_display address f (older_query code group) =
    pieces (codes " query max_resp_code=" ∷ decimal code ∷ codes " group=" ∷ address group ∷ [])
content_display address f (query code group flag qrv qqic sources) =
    pieces (codes " query max_resp_code=" ∷ decimal code ∷ codes " group=" ∷ address group
    ∷ codes " s_flag=" ∷ truth_text flag ∷ codes " qrv=" ∷ decimal qrv ∷ codes " qqic=" ∷ decimal qqic
    ∷ codes " sources=" ∷ sources_display address (width f) sources ∷ [])
content_display address f (oldest_report group) = codes " report group=" ++ address group
content_display address f (older_report group) = codes " report group=" ++ address group
content_display address f (leave group) = codes " leave group=" ++ address group
content_display address f (report count records) =
    codes " report records="
    ++ (decimal count ++ records_display address (width f) (records_ahead (width f) count records))

abbrev pub message_display : (List ℕ → List ℕ) → Family → Value → List ℕ
message_display address f v =
    family_display f ++ (codes "v" ++ (decimal (version_of f v) ++ content_display address f v))

-- why octets are refused
abbrev pub refusal_display : Refusal → List ℕ
refusal_display Refusal.Short = codes "fewer than 8 bytes"
refusal_display Refusal.Checksum = codes "wrong checksum"
refusal_display (Refusal.UnknownType t) = pieces (codes "type " ∷ decimal t ∷ codes " is not read" ∷ [])
refusal_display Refusal.Length = codes "a length that no message of this type has"
refusal_display Refusal.Cut = codes "more sources or records counted than there are"
