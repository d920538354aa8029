-- A packet of DHCP (RFC 2131 section 2), as fields.
use Rattle.std.specs.Prelude.{◌≡◌, ◌≢◌, ◌<◌, [], ◌∷◌, ◌++◌, List, None, Option, Some, ℕ, codes, drop, if◌then◌else◌}
use Rattle.std.specs.Prelude.{length, nat_lt}
use Rattle.wirebase.specs.Bytes.{Reaches, number_of}
use Rattle.dhcp_wire.specs.Dhcpv4Packet.{magic_cookie, magic_field}
use Rattle.dhcp_options.specs.Overload.{IsOverload}
use Rattle.dhcp_options.specs.Parts.{Answer, ArePartsOf}
use Rattle.dhcp_options.specs.declared.overload.Overload.{Overload}
use Rattle.packet_fields.specs.Fields.{Item, entries, field, octets}
use Rattle.dhcp_fields.specs.Header.{fixed_items, names_items}
use Rattle.dhcp_fields.specs.Options.{option_entries}
use Rattle.dhcp_fields.specs.Refusal.{first_cut, refused_items}
use Rattle.dhcp_fields.specs.declared.refusal.Refusal.{Refusal}

-- why octets are not told apart, and the octets
abbrev pub unread_items : Refusal → List ℕ → List Item
unread_items why bytes = refused_items (Some why) ++ (field (codes "rest") (octets bytes) ∷ [])

-- fewer than 240 bytes: the fields up to the hardware address where all of these are there
abbrev pub cut_items : List ℕ → List Item
cut_items bytes = fixed_items bytes ++ unread_items Refusal.Short (drop 44 bytes)

abbrev pub short_items : List ℕ → List Item
short_items bytes =
    if nat_lt (length bytes) 44 then unread_items Refusal.Short bytes else cut_items bytes

-- no magic cookie: what would hold it and options
abbrev pub bare_items : List ℕ → List Item
bare_items bytes =
    fixed_items bytes ++ names_items None bytes ++ unread_items Refusal.MagicCookie (drop 236 bytes)

-- the options, by their parts
abbrev pub options_items : List Answer → List Item
options_items parts = entries (codes "options") (option_entries parts) ∷ refused_items (first_cut parts)

abbrev pub packet_items : Option Overload → List Answer → List ℕ → List Item
packet_items overload parts bytes = fixed_items bytes ++ names_items overload bytes ++ options_items parts

-- The fields of a packet, and why it can't be read whole where it can't.
pub data PacketIs (bytes : List ℕ) : List Item → Option Refusal → Type 0 where
  short : length bytes < 240 → PacketIs bytes (short_items bytes) (Some Refusal.Short)
  no_cookie : Reaches magic_field bytes → number_of magic_field bytes ≢ magic_cookie
      → PacketIs bytes (bare_items bytes) (Some Refusal.MagicCookie)
  has_options : (overload : Option Overload) (parts : List Answer) → Reaches magic_field bytes
      → number_of magic_field bytes ≡ magic_cookie → IsOverload bytes overload → ArePartsOf bytes parts
      → PacketIs bytes (packet_items overload parts bytes) (first_cut parts)
