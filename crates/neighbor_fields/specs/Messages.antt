-- What messages of several protocols have in common, as fields.
use Rattle.std.specs.Prelude.{[], ◌∷◌, List, None, ℕ, codes}
use Rattle.wirebase.specs.Bytes.{byte_of, field as at}
use Rattle.packet_fields.specs.Fields.{Item, field, named, octets, text}
use Rattle.packet_fields.specs.Names.{Rows, name_in}
use Rattle.neighbor_fields.specs.Lack.{lack_text}
use Rattle.neighbor_fields.specs.declared.lack.Lack.{Lack}

-- IANA's registry of the types of ICMPv6: neighbor discovery and multicast listeners
abbrev pub type_names : Rows
type_names =
    (130, codes "multicast_listener_query") ∷ (131, codes "multicast_listener_report")
    ∷ (132, codes "multicast_listener_done") ∷ (133, codes "router_solicitation")
    ∷ (134, codes "router_advertisement") ∷ (135, codes "neighbor_solicitation")
    ∷ (136, codes "neighbor_advertisement") ∷ (137, codes "redirect")
    ∷ (141, codes "inverse_neighbor_discovery_solicitation")
    ∷ (142, codes "inverse_neighbor_discovery_advertisement")
    ∷ (143, codes "version_2_multicast_listener_report") ∷ []

-- the type, the first octet of every message
abbrev pub type_in : List ℕ → ℕ
type_in bytes = byte_of (at 0 1) bytes

abbrev pub code_in : List ℕ → ℕ
code_in bytes = byte_of (at 1 2) bytes

-- type and code of a message of ICMPv6
abbrev pub head_items : List ℕ → List Item
head_items bytes =
    named (codes "type") (type_in bytes) (name_in type_names (type_in bytes))
    ∷ named (codes "code") (code_in bytes) None ∷ []

-- octets that are cut within fields
abbrev pub cut_items : List ℕ → List Item
cut_items d = field (codes "data") (octets d) ∷ field (codes "refused") (text (lack_text Lack.Fields)) ∷ []

-- octets behind all that is counted, where there are any
abbrev pub additional_items : List ℕ → List Item
additional_items [] = []
additional_items (b ∷ bs) = field (codes "additional_data") (octets (b ∷ bs)) ∷ []
