-- The options of a packet (RFC 2132), as a list.
use Rattle.std.specs.Prelude.{◌*◌, [], ◌∷◌, ◌++◌, Err, List, None, Ok, Option, Some, ℕ, codes, if◌then◌else◌, map}
use Rattle.std.specs.Prelude.{nat_lt}
use Rattle.wirebase.specs.Ipv4.{address_text}
use Rattle.dhcp_wire.specs.Dhcpv4Options.{OptionValue, option}
use Rattle.dhcp_wire.specs.Dhcpv4OptionTable.{format_of}
use Rattle.dhcp_wire.specs.Dhcpv4OptionValue as content
use Rattle.dhcp_wire.specs.Dhcpv4OptionValue.{Content, content_in}
use Rattle.dhcp_wire.specs.Dhcpv4Tables.{message_number}
use Rattle.dhcp_options.specs.Joined.{copied, joined}
use Rattle.dhcp_options.specs.Parts.{Answer}
use Rattle.packet_fields.specs.Entries.{hidden_value, keyed_value}
use Rattle.packet_fields.specs.Fields.{Cell, Entry, Leaf, bare, number, numbers, octets, text, texts, time}
use Rattle.packet_fields.specs.Names.{Rows, name_in}
use Rattle.packet_fields.specs.Texts.{addresses}
use Rattle.dhcp_fields.specs.Texts.{escaped, option_label}

-- types of message (RFC 2132 section 9.6)
abbrev pub message_names : Rows
message_names =
    (1, codes "discover") ∷ (2, codes "offer") ∷ (3, codes "request") ∷ (4, codes "decline") ∷ (5, codes "ack")
    ∷ (6, codes "nak") ∷ (7, codes "release") ∷ (8, codes "inform") ∷ []

-- ---- values

-- the value of data, by the format of the option
abbrev pub value_leaf : Content → Leaf
value_leaf (content.address a) = text (address_text a)
value_leaf (content.addresses bytes) = texts (addresses 4 bytes)
value_leaf (content.seconds n) = time (1000 * n)
value_leaf (content.number n) = number n
value_leaf (content.byte n) = number n
value_leaf (content.message m) = number (message_number m)
value_leaf (content.text bytes) = text (escaped bytes)
value_leaf (content.kinds bytes) = numbers bytes
value_leaf (content.octets bytes) = octets bytes

-- the name of a value that is a type of message
abbrev pub name_cells : Option (List ℕ) → List Cell
name_cells None = []
name_cells (Some name) = record { key = codes "value_name"; value = text name; shown = bare } ∷ []

abbrev pub value_names : Content → List Cell
value_names (content.message m) = name_cells (name_in message_names (message_number m))
value_names _ = []

-- ---- entries

abbrev pub kind_entry : ℕ → Leaf → List Cell → Entry
kind_entry kind value rest = record {
  label_key = codes "option";
  label = option_label kind;
  first_key = codes "value";
  first = value;
  rest = rest ++ hidden_value (codes "type") kind;
}

abbrev pub content_entry : ℕ → Content → Entry
content_entry kind c = kind_entry kind (value_leaf c) (value_names c)

abbrev pub value_entry : OptionValue → Entry
value_entry o = content_entry o.kind (content_in (format_of o.kind) o.body)

-- an option in several parts that have too many bytes to be joined here
abbrev pub long_entry : ℕ → Entry
long_entry kind =
    kind_entry kind (octets []) (keyed_value (codes "refused") (text (codes "more than 1500 bytes in parts")))

-- an option of these parts, joined (RFC 3396)
abbrev pub option_entry : List Answer → ℕ → Entry
option_entry parts kind =
    if nat_lt 1500 (copied kind parts) then long_entry kind else value_entry (option kind (joined kind parts))

-- the kinds of options in the order of their first parts
abbrev pub kinds_in : List Answer → List ℕ
kinds_in [] = []
kinds_in (Ok part ∷ more) = if part.is_first then part.kind ∷ kinds_in more else kinds_in more
kinds_in (Err cut ∷ more) = kinds_in more

abbrev pub option_entries : List Answer → List Entry
option_entries parts = map (option_entry parts) (kinds_in parts)
