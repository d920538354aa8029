-- Options of messages of neighbor discovery (RFC 4861 section 4.6), as entries.
use Rattle.std.specs.Prelude.{◌==◌, ◌*◌, ◌-◌, ◌/◌, ◌%◌, ◌^◌, [], ◌∷◌, ◌++◌, List, None, Option, Some, ℕ, codes}
use Rattle.std.specs.Prelude.{decimal, drop, if◌then◌else◌, length, map, nat_le, nat_lt, replicate}
use Rattle.wirebase.specs.Bytes.{byte_of, bytes_of, field as at, number_of, over}
use Rattle.wirebase.specs.Hexadecimal.{hex_colons}
use Rattle.packet_fields.specs.Entries.{hidden_value, keyed_value, octets_entry}
use Rattle.packet_fields.specs.Fields.{Cell, Entry, Item, Leaf, entries, leaf_or_missing, number, octets, text, texts}
use Rattle.packet_fields.specs.Fields.{time}
use Rattle.packet_fields.specs.Labels.{label_text}
use Rattle.packet_fields.specs.Names.{Rows, name_in}
use Rattle.packet_fields.specs.Parts.{parts}
use Rattle.packet_fields.specs.Texts.{address_text, addresses, flag_names}
use Rattle.neighbor_fields.specs.Messages.{type_in}
use Rattle.neighbor_fields.specs.NdiscTexts.{names_in, uri_text, wrong_names}

-- ---- names

-- The flags of a prefix (RFC 4861 section 4.6.2, RFC 6275 section 7.2, RFC 9762 section 4), each by its bit; bits
-- without a name by their number.
unfoldable pub prefix_flags : Rows
prefix_flags =
    (0x80, codes "on_link") ∷ (0x40, codes "autonomous") ∷ (0x20, codes "router_address")
    ∷ (0x10, codes "dhcpv6_pd_preferred") ∷ (0x08, codes "0x08") ∷ (0x04, codes "0x04") ∷ (0x02, codes "0x02")
    ∷ (0x01, codes "0x01") ∷ []

-- the preference of a router and of a route (RFC 4191 section 2.1)
abbrev pub preference_names : Rows
preference_names = (0, codes "medium") ∷ (1, codes "high") ∷ (2, codes "reserved") ∷ (3, codes "low") ∷ []

-- IANA's registry of the options of neighbor discovery
unfoldable pub option_names : Rows
option_names =
    (1, codes "source_link_layer_address") ∷ (2, codes "target_link_layer_address") ∷ (3, codes "prefix_information")
    ∷ (4, codes "redirected_header") ∷ (5, codes "mtu") ∷ (6, codes "nbma_shortcut_limit")
    ∷ (7, codes "advertisement_interval") ∷ (8, codes "home_agent_information") ∷ (9, codes "source_address_list")
    ∷ (10, codes "target_address_list") ∷ (11, codes "cga") ∷ (12, codes "rsa_signature") ∷ (13, codes "timestamp")
    ∷ (14, codes "nonce") ∷ (15, codes "trust_anchor") ∷ (16, codes "certificate")
    ∷ (17, codes "ip_address_or_prefix") ∷ (18, codes "new_router_prefix_information")
    ∷ (19, codes "link_layer_address") ∷ (20, codes "neighbor_advertisement_acknowledgment")
    ∷ (21, codes "pvd_id_router_advertisement") ∷ (23, codes "map") ∷ (24, codes "route_information")
    ∷ (25, codes "recursive_dns_server") ∷ (26, codes "ra_flags_extension") ∷ (27, codes "handover_key_request")
    ∷ (28, codes "handover_key_reply") ∷ (29, codes "handover_assist_information")
    ∷ (30, codes "mobile_node_identifier") ∷ (31, codes "dns_search_list") ∷ (32, codes "proxy_signature")
    ∷ (33, codes "address_registration") ∷ (34, codes "6lowpan_context")
    ∷ (35, codes "authoritative_border_router")
    ∷ (36, codes "6lowpan_capability_indication") ∷ (37, codes "captive_portal") ∷ (38, codes "pref64")
    ∷ (39, codes "crypto_id_parameters") ∷ (40, codes "ndp_signature") ∷ (41, codes "resource_directory_address")
    ∷ (138, codes "card_request") ∷ (139, codes "card_reply") ∷ (144, codes "encrypted_dns")
    ∷ (253, codes "experiment_1") ∷ (254, codes "experiment_2") ∷ []

-- ---- options (RFC 4861 section 4.6): a type, a number of units of 8 octets, and data up to there

abbrev pub units_in : List ℕ → ℕ
units_in bytes = byte_of (at 1 2) bytes

-- the octets of the first option; all octets where it is cut, and where it counts no units
abbrev pub option_len : List ℕ → ℕ
option_len bytes =
    if units_in bytes == 0 then length bytes
    else if nat_lt (length bytes) (8 * units_in bytes) then length bytes
    else 8 * units_in bytes

-- why a prefix is refused, where it is (RFC 4861 section 4.6.2): an address has 128 bits
abbrev pub wrong_prefix : List ℕ → Option (List ℕ)
wrong_prefix bytes =
    if length bytes == 32 then (if nat_lt 128 (byte_of (at 2 3) bytes) then Some (codes "too many bits for the prefix")
    else None)
    else Some (codes "not 32 bytes")

-- why a redirected packet is refused, where it is: it has no room for an IPv6 header, or its version is another
abbrev pub wrong_quote : List ℕ → Option (List ℕ)
wrong_quote bytes =
    if nat_lt (length bytes) 48 then Some (codes "fewer than 48 bytes")
    else if byte_of (at 8 9) bytes / 16 == 6 then None
    else Some (codes "not of version 6")

-- a route (RFC 4191 section 2.3): its prefix has 0, 8 or 16 octets, and at most so many bits
abbrev pub wrong_route : List ℕ → Option (List ℕ)
wrong_route bytes =
    if nat_lt 24 (length bytes) then Some (codes "more than 24 bytes")
    else if nat_lt (8 * (length bytes - 8)) (byte_of (at 2 3) bytes) then Some (codes "too many bits for the prefix")
    else None

-- recursive DNS servers (RFC 8106 section 5.1): one address or more
abbrev pub wrong_servers : List ℕ → Option (List ℕ)
wrong_servers bytes =
    if nat_lt (length bytes) 24 then Some (codes "fewer than 24 bytes")
    else if length bytes % 16 == 8 then None
    else Some (codes "no whole number of addresses")

-- a search list (RFC 8106 section 5.2)
abbrev pub wrong_search_list : List ℕ → Option (List ℕ)
wrong_search_list bytes =
    if nat_lt (length bytes) 16 then Some (codes "fewer than 16 bytes") else wrong_names (drop 8 bytes)

-- the code of a NAT64 prefix's length, and that length in bits (RFC 8781 section 4)
abbrev pub length_code : List ℕ → ℕ
length_code bytes = number_of (at 2 4) bytes % 8

abbrev pub length_bits : ℕ → ℕ
length_bits code =
    if code == 0 then 96 else if code == 1 then 64 else if code == 2 then 56 else if code == 3 then 48
    else if code == 4 then 40 else 32

abbrev pub wrong_nat64 : List ℕ → Option (List ℕ)
wrong_nat64 bytes =
    if length bytes == 16 then (if length_code bytes == 6 then Some (codes "no prefix length has the code 6")
    else if length_code bytes == 7 then Some (codes "no prefix length has the code 7")
    else None)
    else Some (codes "not 16 bytes")

-- why an option is refused, where it is: by the length that it counts, and by what its type asks of it
unfoldable pub wrong_other : List ℕ → Option (List ℕ)
wrong_other bytes =
    if type_in bytes == 24 then wrong_route bytes
    else if type_in bytes == 25 then wrong_servers bytes
    else if type_in bytes == 31 then wrong_search_list bytes
    else if type_in bytes == 38 then wrong_nat64 bytes
    else None

abbrev pub wrong_form : List ℕ → Option (List ℕ)
wrong_form bytes =
    if type_in bytes == 3 then wrong_prefix bytes
    else if type_in bytes == 4 then wrong_quote bytes
    else if type_in bytes == 5 then (if length bytes == 8 then None else Some (codes "not 8 bytes"))
    else wrong_other bytes

abbrev pub refusal : List ℕ → Option (List ℕ)
refusal bytes =
    if nat_lt (length bytes) 2 then Some (codes "no length")
    else if units_in bytes == 0 then Some (codes "a length of 0")
    else if length bytes == 8 * units_in bytes then wrong_form bytes
    else Some (codes "fewer bytes than the option counts")

abbrev pub label_of : ℕ → List ℕ
label_of t = label_text (name_in option_names t) (codes "option") t

-- an option by its octets, and why it is refused where it is
abbrev pub plain_entry : List ℕ → Option (List ℕ) → Entry
plain_entry bytes refused =
    octets_entry (codes "option") (label_of (type_in bytes)) (drop 2 bytes) refused (type_in bytes)

-- an option by its type, its first value, and others
abbrev pub entry_with : ℕ → List ℕ → Leaf → List Cell → Entry
entry_with t key first cells = record {
  label_key = codes "option";
  label = label_of t;
  first_key = key;
  first = first;
  rest = cells ++ hidden_value (codes "type") t;
}

-- a link-layer address, with what the option has behind it
abbrev pub address_entry : ℕ → List ℕ → Entry
address_entry t address = entry_with t (codes "addr") (text (hex_colons address)) []

-- a prefix (RFC 4861 section 4.6.2): an address, a slash, and a number of bits; lifetimes are in seconds
abbrev pub prefix_text : List ℕ → ℕ → List ℕ
prefix_text address len = address_text address ++ (codes "/" ++ decimal len)

abbrev pub flags_cells : ℕ → List Cell
flags_cells bits = keyed_value (codes "flags") (texts (flag_names prefix_flags bits))

abbrev pub prefix_cells : List ℕ → List Cell
prefix_cells bytes =
    flags_cells (byte_of (at 3 4) bytes)
    ++ keyed_value (codes "valid_lifetime") (time (1000 * number_of (at 4 8) bytes))
    ++ keyed_value (codes "preferred_lifetime") (time (1000 * number_of (at 8 12) bytes))

abbrev pub prefix_entry : List ℕ → Entry
prefix_entry bytes =
    entry_with 3 (codes "prefix") (text (prefix_text (bytes_of (at 16 32) bytes) (byte_of (at 2 3) bytes)))
    (prefix_cells bytes)

-- the IPv6 header of a redirected packet, and the octets behind it (RFC 4861 section 4.6.3)
abbrev pub quoted_cells : List ℕ → List Cell
quoted_cells bytes =
    keyed_value (codes "quoted_dst_addr") (text (address_text (bytes_of (at 32 48) bytes)))
    ++ keyed_value (codes "quoted_next_header") (number (byte_of (at 14 15) bytes))
    ++ keyed_value (codes "quoted_hop_limit") (number (byte_of (at 15 16) bytes))
    ++ keyed_value (codes "quoted_payload_len") (number (number_of (at 12 14) bytes))
    ++ keyed_value (codes "quoted_payload") (octets (drop 48 bytes))

abbrev pub redirected_entry : List ℕ → Entry
redirected_entry bytes =
    entry_with 4 (codes "quoted_src_addr") (text (address_text (bytes_of (at 16 32) bytes))) (quoted_cells bytes)

abbrev pub mtu_entry : List ℕ → Entry
mtu_entry bytes = entry_with 5 (codes "mtu") (number (number_of (at 4 8) bytes)) []

-- ---- options of other standards than RFC 4861

-- a lifetime in seconds
abbrev pub lifetime_cells : ℕ → List Cell
lifetime_cells seconds = keyed_value (codes "lifetime") (time (1000 * seconds))

abbrev pub nonce_entry : List ℕ → Entry
nonce_entry bytes = entry_with 14 (codes "nonce") (octets (drop 2 bytes)) []

-- the address that some octets begin, with zeros behind them
abbrev pub filled : List ℕ → List ℕ
filled front = over (replicate 16 0) front

-- so many first bits of an octet, and of octets, with zeros in the place of the others
abbrev pub kept_bits : ℕ → ℕ → ℕ
kept_bits len b = if nat_le 8 len then b else b / 2 ^ (8 - len) * 2 ^ (8 - len)

abbrev pub masked : ℕ → List ℕ → List ℕ
masked len [] = []
masked len (b ∷ bs) = kept_bits len b ∷ masked (len - 8) bs

-- a prefix that some octets begin: bits beyond its length are no part of it
abbrev pub begun_prefix : List ℕ → ℕ → Leaf
begun_prefix front len = text (prefix_text (masked len (filled front)) len)

abbrev pub preference_cells : ℕ → List Cell
preference_cells n = keyed_value (codes "preference") (leaf_or_missing text (name_in preference_names n))

abbrev pub route_entry : List ℕ → Entry
route_entry bytes =
    entry_with 24 (codes "prefix") (begun_prefix (drop 8 bytes) (byte_of (at 2 3) bytes))
    (preference_cells (byte_of (at 3 4) bytes / 8 % 4) ++ lifetime_cells (number_of (at 4 8) bytes))

abbrev pub servers_entry : List ℕ → Entry
servers_entry bytes =
    entry_with 25 (codes "servers") (texts (addresses 16 (drop 8 bytes))) (lifetime_cells (number_of (at 4 8) bytes))

abbrev pub search_list_entry : List ℕ → Entry
search_list_entry bytes =
    entry_with 31 (codes "names") (texts (names_in (drop 8 bytes))) (lifetime_cells (number_of (at 4 8) bytes))

abbrev pub portal_entry : List ℕ → Entry
portal_entry bytes = entry_with 37 (codes "uri") (text (uri_text (drop 2 bytes))) []

-- the lifetime of a NAT64 prefix is in units of 8 seconds
abbrev pub nat64_entry : List ℕ → Entry
nat64_entry bytes =
    entry_with 38 (codes "prefix") (begun_prefix (drop 4 bytes) (length_bits (length_code bytes)))
    (lifetime_cells (8 * (number_of (at 2 4) bytes / 8)))

-- an option that is not refused
unfoldable pub other_entry : List ℕ → Entry
other_entry bytes =
    if type_in bytes == 14 then nonce_entry bytes
    else if type_in bytes == 24 then route_entry bytes
    else if type_in bytes == 25 then servers_entry bytes
    else if type_in bytes == 31 then search_list_entry bytes
    else if type_in bytes == 37 then portal_entry bytes
    else if type_in bytes == 38 then nat64_entry bytes
    else plain_entry bytes None

abbrev pub whole_entry : List ℕ → Entry
whole_entry bytes =
    if type_in bytes == 1 then address_entry 1 (drop 2 bytes)
    else if type_in bytes == 2 then address_entry 2 (drop 2 bytes)
    else if type_in bytes == 3 then prefix_entry bytes
    else if type_in bytes == 4 then redirected_entry bytes
    else if type_in bytes == 5 then mtu_entry bytes
    else other_entry bytes

abbrev pub whole_or_refused : Option (List ℕ) → List ℕ → Entry
whole_or_refused None bytes = whole_entry bytes
whole_or_refused (Some why) bytes = plain_entry bytes (Some why)

abbrev pub option_entry : List ℕ → Entry
option_entry bytes = whole_or_refused (refusal bytes) bytes

abbrev pub options_items : List ℕ → List Item
options_items bytes = entries (codes "options") (map option_entry (parts option_len (length bytes) bytes)) ∷ []
