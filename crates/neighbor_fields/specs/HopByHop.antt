-- The options of a hop-by-hop header (RFC 8200 sections 4.2 and 4.3), as fields.
use Rattle.std.specs.Prelude.{◌==◌, ◌+◌, [], ◌∷◌, ◌++◌, List, None, Option, Some, ℕ, codes, drop, if◌then◌else◌}
use Rattle.std.specs.Prelude.{length, map, nat_lt}
use Rattle.wirebase.specs.Bytes.{byte_of, field as at, number_of}
use Rattle.packet_fields.specs.Entries.{hidden_value, keyed_value, octets_entry}
use Rattle.packet_fields.specs.Fields.{Entry, Item, entries, leaf_or_missing, number, text}
use Rattle.packet_fields.specs.Labels.{label_text}
use Rattle.packet_fields.specs.Names.{Rows, name_in}
use Rattle.packet_fields.specs.Parts.{parts}
use Rattle.neighbor_fields.specs.Messages.{type_in}

-- IANA's registry of destination options and hop-by-hop options
unfoldable pub option_names : Rows
option_names =
    (0x00, codes "pad1") ∷ (0x01, codes "padn") ∷ (0x04, codes "tunnel_encapsulation_limit")
    ∷ (0x05, codes "router_alert") ∷ (0x07, codes "calipso") ∷ (0x08, codes "smf_dpd")
    ∷ (0x0f, codes "performance_and_diagnostic_metrics") ∷ (0x11, codes "ioam_destination_option")
    ∷ (0x12, codes "alternate_marking") ∷ (0x23, codes "rpl_option") ∷ (0x26, codes "quick_start")
    ∷ (0x30, codes "minimum_path_mtu") ∷ (0x31, codes "ioam") ∷ (0x63, codes "rpl_option_old")
    ∷ (0x6d, codes "mpl_option") ∷ (0x8a, codes "endpoint_identification") ∷ (0x8b, codes "ilnp_nonce")
    ∷ (0x8c, codes "line_identification") ∷ (0xc2, codes "jumbo_payload") ∷ (0xc9, codes "home_address")
    ∷ (0xee, codes "ip_dff") ∷ []

-- the values of a router alert (RFC 2711 section 2.1)
abbrev pub alert_names : Rows
alert_names = (0, codes "mld") ∷ (1, codes "rsvp") ∷ (2, codes "active_networks") ∷ []

-- ---- one option: a Pad1 is one octet, others are a type, a length and as many octets as it counts

abbrev pub counted_len : List ℕ → ℕ
counted_len bytes = 2 + byte_of (at 1 2) bytes

-- the octets of the first option; all octets where it is cut
abbrev pub option_len : List ℕ → ℕ
option_len bytes =
    if type_in bytes == 0 then 1
    else if nat_lt (length bytes) (counted_len bytes) then length bytes
    else counted_len bytes

-- why an option is refused, where it is: by the length that its type has, if it has one, and by the length that it
-- counts
abbrev pub wrong_len : ℕ → ℕ → Option (List ℕ)
wrong_len t len =
    if t == 5 then (if len == 4 then None else Some (codes "not 2 bytes"))
    else if t == 0xc2 then (if len == 6 then None else Some (codes "not 4 bytes"))
    else None

abbrev pub refusal : List ℕ → Option (List ℕ)
refusal bytes =
    if type_in bytes == 0 then None
    else if nat_lt (length bytes) 2 then Some (codes "no length")
    else if length bytes == counted_len bytes then wrong_len (type_in bytes) (length bytes)
    else Some (codes "fewer bytes than the option counts")

abbrev pub label_of : ℕ → List ℕ
label_of t = label_text (name_in option_names t) (codes "option") t

-- an option by its octets, and why it is refused where it is
abbrev pub plain_entry : List ℕ → Option (List ℕ) → Entry
plain_entry bytes refused =
    octets_entry (codes "option") (label_of (type_in bytes)) (drop 2 bytes) refused (type_in bytes)

-- a router alert by its number, with the name of that (RFC 2711 section 2.1)
abbrev pub alert_in : List ℕ → ℕ
alert_in bytes = number_of (at 2 4) bytes

abbrev pub alert_entry : List ℕ → Entry
alert_entry bytes = record {
  label_key = codes "option";
  label = label_of 5;
  first_key = codes "value";
  first = number (alert_in bytes);
  rest =
      keyed_value (codes "value_name") (leaf_or_missing text (name_in alert_names (alert_in bytes)))
      ++ hidden_value (codes "type") 5;
}

-- the payload of a jumbogram by its number of octets (RFC 2675 section 2)
abbrev pub jumbo_entry : List ℕ → Entry
jumbo_entry bytes = record {
  label_key = codes "option";
  label = label_of 0xc2;
  first_key = codes "jumbo_payload_len";
  first = number (number_of (at 2 6) bytes);
  rest = hidden_value (codes "type") 0xc2;
}

-- an option that is not refused
abbrev pub whole_entry : List ℕ → Entry
whole_entry bytes =
    if type_in bytes == 5 then alert_entry bytes
    else if type_in bytes == 0xc2 then jumbo_entry bytes
    else plain_entry bytes None

abbrev pub whole_or_refused : Option (List ℕ) → List ℕ → Entry
whole_or_refused None bytes = whole_entry bytes
whole_or_refused (Some why) bytes = plain_entry bytes (Some why)

abbrev pub option_entry : List ℕ → Entry
option_entry bytes = whole_or_refused (refusal bytes) bytes

-- ---- all options of a header, by the octets after its length

abbrev pub options_items : List ℕ → List Item
options_items bytes = entries (codes "hop_by_hop") (map option_entry (parts option_len (length bytes) bytes)) ∷ []
