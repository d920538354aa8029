-- What messages of ICMPv4 and of ICMPv6 have in common, as fields.
use Rattle.std.specs.Prelude.{◌∷◌, ◌++◌, [], List, Option, ℕ, codes, drop}
use Rattle.wirebase.specs.Bytes.{field as at, number_of}
use Rattle.packet_fields.specs.Entries.{keyed_value}
use Rattle.packet_fields.specs.Fields.{Entry, Item, field, named, number, octets, text}
use Rattle.icmp_fields.specs.Refusal.{refusal_text}
use Rattle.icmp_fields.specs.declared.refusal.Refusal.{Refusal}

-- a type and a code, each with its name where it has one
abbrev pub named_head : ℕ → Option (List ℕ) → ℕ → Option (List ℕ) → List Item
named_head t type_name code code_name = named (codes "type") t type_name ∷ named (codes "code") code code_name ∷ []

-- what an echo holds behind its checksum
abbrev pub echo_items : ℕ → ℕ → List ℕ → List Item
echo_items ident seq_no d =
    field (codes "ident") (number ident) ∷ field (codes "seq_no") (number seq_no) ∷ field (codes "data") (octets d) ∷ []

-- octets that are not told apart
abbrev pub rest_items : List ℕ → List Item
rest_items bytes = field (codes "rest") (octets bytes) ∷ []

-- the identifier and the sequence number of a message, by all its octets
abbrev pub ids_items : List ℕ → List Item
ids_items bytes =
    field (codes "ident") (number (number_of (at 4 6) bytes))
    ∷ field (codes "seq_no") (number (number_of (at 6 8) bytes)) ∷ []

-- octets behind all fields, where there are any
abbrev pub additional_items : List ℕ → List Item
additional_items [] = []
additional_items (b ∷ bs) = field (codes "additional_data") (octets (b ∷ bs)) ∷ []

-- the octets behind the checksum of a message, and why they are not told apart
abbrev pub behind_checksum : List ℕ → List Item
behind_checksum bytes = rest_items (drop 4 bytes)

abbrev pub why_items : Refusal → List Item
why_items why = field (codes "refused") (text (refusal_text why)) ∷ []

abbrev pub refused_items : List ℕ → Refusal → List Item
refused_items bytes why = behind_checksum bytes ++ why_items why

-- an entry of this kind that is cut, by its octets, and why it can't be read
abbrev pub cut_entry : List ℕ → List ℕ → List ℕ → Entry
cut_entry label why bytes = record {
  label_key = codes "entry";
  label = label;
  first_key = codes "data";
  first = octets bytes;
  rest = keyed_value (codes "refused") (text why);
}
