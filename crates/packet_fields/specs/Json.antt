-- The JSON object that fields are (RFC 8259), as a value of the crate `serde_json`.
use Rattle.std.specs.Prelude.{◌≡◌, [], ◌∷◌, ◌++◌, List, None, Option, Some, ℕ, codes}
use Rattle.hex.specs.Hex.{encode_lower}
use Rattle.json.specs.Json.{document}
use Rattle.json.specs.Print.{quoted}
use Rattle.serde_json.specs.Data.{Data, null, boolean, string, array, object, Items, no_items, item, Members, no_members}
use Rattle.serde_json.specs.Data as values
use Rattle.serde_json.specs.Written.{outline}
use Rattle.packet_fields.specs.Fields.{Cell, Entry, Item, ItemsFit, Fits, Leaf, field, named, entries, name_key}
use Rattle.packet_fields.specs.Fields.{number, truth, text, octets, time, texts, numbers, missing}
use Rattle.packet_fields.specs.Fields.{leaf_text, items_text}
use Rattle.packet_fields.specs.declared.form.Form.TheVariants.{Json}

abbrev pub integer : ℕ → Data
integer n = values.number (values.unsigned n)

abbrev pub strings : List (List ℕ) → Items
strings [] = no_items
strings (t ∷ ts) = item (string t) (strings ts)

abbrev pub integers : List ℕ → Items
integers [] = no_items
integers (n ∷ ns) = item (integer n) (integers ns)

-- the value of a leaf
abbrev pub value_of : Leaf → Data
value_of (number n) = integer n
value_of (truth b) = boolean b
value_of (text t) = string t
value_of (octets bytes) = string (encode_lower bytes)
value_of (time millis) = integer millis
value_of (texts ts) = array (strings ts)
value_of (numbers ns) = array (integers ns)
value_of missing = null

-- the members of an entry's further values, and an entry
abbrev pub cell_members : List Cell → Members
cell_members [] = no_members
cell_members (c ∷ rest) = values.member c.key (value_of c.value) (cell_members rest)

abbrev pub entry_value : Entry → Data
entry_value e =
    object
    (values.member e.label_key (string e.label)
    (values.member e.first_key (value_of e.first) (cell_members e.rest)))

abbrev pub entry_values : List Entry → Items
entry_values [] = no_items
entry_values (e ∷ es) = item (entry_value e) (entry_values es)

-- a number's name is a member of its own
abbrev pub with_name : List ℕ → Option (List ℕ) → Members → Members
with_name key None more = more
with_name key (Some name) more = values.member (name_key key) (string name) more

-- the members of fields
abbrev pub members_of : List Item → Members
members_of [] = no_members
members_of (field key value ∷ rest) = values.member key (value_of value) (members_of rest)
members_of (named key n name ∷ rest) = values.member key (integer n) (with_name key name (members_of rest))
members_of (entries key es ∷ rest) = values.member key (array (entry_values es)) (members_of rest)

-- an object whose first member is this, and whose others are fields; and its text
abbrev pub object_of : List ℕ → Leaf → List Item → Data
object_of key first items = object (values.member key (value_of first) (members_of items))

unfoldable pub object_text : List ℕ → Leaf → List Item → List ℕ
object_text key first items =
    codes "{" ++ quoted key ++ codes ":" ++ leaf_text Json first ++ items_text Json items ++ codes "}"

-- The text of such an object is a text of JSON, and reads as the object.
abbrev pub ReadsAsJson : Type 0
ReadsAsJson =
    (key : List ℕ) (first : Leaf) (items : List Item) → Fits first → ItemsFit items
    → document (object_text key first items) ≡ Some (outline (object_of key first items))
