-- Extensions of ICMP errors (RFC 4884), as fields.
use Rattle.std.specs.Prelude.{◌≡◌, ◌≢◌, ◌≤◌, ◌%◌, ◌++◌, ◌∷◌, [], List, None, Option, Some, ℕ, codes, length, map}
use Rattle.std.specs.Prelude.{Bool, IsTrue, false, true, drop, Result, Ok, Err}
use Rattle.std.specs.Option.{option_map}
use Rattle.wirebase.specs.Checks.{Check, Fails, Passes, check}
use Rattle.extension_wire.specs.ExtensionDisplay.{interface_refusal_display, label_refusal_display}
use Rattle.extension_wire.specs.ExtensionDisplay.{object_refusal_display, split_refusal_display}
use Rattle.extension_wire.specs.ExtensionDisplay.{structure_refusal_display}
use Rattle.extension_wire.specs.Interface as interface
use Rattle.extension_wire.specs.Interface.{InterfaceValue, IsInformation}
use Rattle.extension_wire.specs.InterfaceParts.{AddressValue}
use Rattle.extension_wire.specs.Mpls.{AreEntries}
use Rattle.extension_wire.specs.Object as object
use Rattle.extension_wire.specs.Object.{ObjectValue, IsObject}
use Rattle.extension_wire.specs.Split as split
use Rattle.extension_wire.specs.Split.{PartsValue, IsSplit}
use Rattle.extension_wire.specs.Structure as structure
use Rattle.extension_wire.specs.Structure.{version_in}
use Rattle.extension_wire.specs.declared.family.Family.{Family}
use Rattle.extension_wire.specs.declared.mpls.LabelEntry.{LabelEntry}
use Rattle.extension_wire.specs.declared.refusal.InterfaceRefusal.{InterfaceRefusal}
use Rattle.extension_wire.specs.declared.refusal.LabelRefusal.{LabelRefusal}
use Rattle.extension_wire.specs.declared.refusal.ObjectRefusal.{ObjectRefusal}
use Rattle.extension_wire.specs.declared.refusal.SplitRefusal.{SplitRefusal}
use Rattle.extension_wire.specs.declared.refusal.StructureRefusal.{StructureRefusal}
use Rattle.packet_fields.specs.Entries.{hidden_value, keyed_value, refused_cells}
use Rattle.packet_fields.specs.Fields.{Cell, Entry, Item, entries, field, leaf_or_missing, number, octets, text, truth}
use Rattle.packet_fields.specs.Labels.{label_text}
use Rattle.packet_fields.specs.Names.{Rows, name_in}
use Rattle.packet_fields.specs.Texts.{address_text}
use Rattle.icmp_fields.specs.ExtensionWords.{role_name}
use Rattle.icmp_fields.specs.Queries.{spare_cells}
use Rattle.icmp_fields.specs.Texts.{name_text}

-- ---- objects

-- IANA's registry of the classes of objects
unfoldable pub class_names : Rows
class_names =
    (1, codes "mpls_label_stack") ∷ (2, codes "interface_information") ∷ (3, codes "interface_identification")
    ∷ (4, codes "extended_information") ∷ []

abbrev pub label_of : ℕ → List ℕ
label_of class = label_text (name_in class_names class) (codes "object") class

-- an object by its octets, and why it is refused where it is
abbrev pub plain_entry : ObjectValue → Option (List ℕ) → Entry
plain_entry o refused = record {
  label_key = codes "object";
  label = label_of o.class;
  first_key = codes "data";
  first = octets o.payload;
  rest =
      hidden_value (codes "class") o.class ++ keyed_value (codes "c_type") (number o.c_type) ++ refused_cells refused;
}

-- octets that begin no object, and why
abbrev pub broken_entry : List ℕ → List ℕ → Entry
broken_entry bytes why = record {
  label_key = codes "object";
  label = codes "object";
  first_key = codes "data";
  first = octets bytes;
  rest = keyed_value (codes "refused") (text why);
}

-- a label of a stack (RFC 4950)
abbrev pub label_entry : LabelEntry → Entry
label_entry e = record {
  label_key = codes "object";
  label = codes "mpls_label";
  first_key = codes "label";
  first = number e.label;
  rest =
      keyed_value (codes "traffic_class") (number e.traffic_class)
      ++ keyed_value (codes "bottom") (truth e.bottom)
      ++ keyed_value (codes "ttl") (number e.ttl)
      ++ hidden_value (codes "class") 1
      ++ hidden_value (codes "c_type") 1;
}

-- a stack of labels by these; one of none by its octets
abbrev pub stack_entries : ObjectValue → List LabelEntry → List Entry
stack_entries o [] = plain_entry o None ∷ []
stack_entries o (e ∷ es) = map label_entry (e ∷ es)

-- what an object says of an interface (RFC 5837): its role, and parts that may be missing
abbrev pub address_leaf_text : AddressValue → List ℕ
address_leaf_text address = address_text address.octets

abbrev pub interface_cells : InterfaceValue → List Cell
interface_cells v =
    keyed_value (codes "index") (leaf_or_missing number v.index)
    ++ keyed_value (codes "addr") (leaf_or_missing text (option_map address_leaf_text v.address))
    ++ keyed_value (codes "name") (leaf_or_missing text (option_map name_text v.name))
    ++ keyed_value (codes "mtu") (leaf_or_missing number v.mtu)

-- with this C-Type, and octets that the object has behind the parts
abbrev pub interface_entry : ℕ → InterfaceValue → List ℕ → Entry
interface_entry c_type v behind = record {
  label_key = codes "object";
  label = codes "interface_information";
  first_key = codes "role";
  first = text (role_name v.role);
  rest =
      interface_cells v
      ++ hidden_value (codes "class") 2
      ++ hidden_value (codes "c_type") c_type
      ++ spare_cells behind;
}

pub data IsInterfaceEntry (o : ObjectValue) (e : Entry) : Type 0 where
  read : (v : InterfaceValue) (is : IsInformation o.c_type o.payload v) → e ≡ interface_entry o.c_type v is.behind_mtu
      → IsInterfaceEntry o e
  refused : (why : InterfaceRefusal) → interface.Refuses o.c_type o.payload why
      → e ≡ plain_entry o (Some (interface_refusal_display why)) → IsInterfaceEntry o e

-- the entries of an object, by its class: those of a stack of labels, where it is one, what it says of an interface, or
-- its octets
abbrev pub HasLabels : ObjectValue → Type 0
HasLabels o = (o.class ≡ 1) × (o.c_type ≡ 1)

pub data AreObjectEntries (o : ObjectValue) (es : List Entry) : Type 0 where
  labels : HasLabels o → length o.payload % 4 ≡ 0 → (stack : List LabelEntry) → AreEntries o.payload stack
      → es ≡ stack_entries o stack → AreObjectEntries o es
  no_labels : HasLabels o → (length o.payload % 4 ≡ 0 → ⊥) → (why : LabelRefusal)
      → es ≡ plain_entry o (Some (label_refusal_display why)) ∷ [] → AreObjectEntries o es
  interface_information : o.class ≡ 2 → (e : Entry) → IsInterfaceEntry o e → es ≡ e ∷ [] → AreObjectEntries o es
  other : (HasLabels o → ⊥) → o.class ≢ 2 → es ≡ plain_entry o None ∷ [] → AreObjectEntries o es

-- The entries of objects one after another, up to the end of the bytes, or up to a place where none begins.
pub data AreObjects : List ℕ → List Entry → Type 0 where
  none : {bytes : List ℕ} {es : List Entry} → bytes ≡ [] → es ≡ [] → AreObjects bytes es
  next : {bytes : List ℕ} {es : List Entry} (o : ObjectValue) (rest : List ℕ) (front more : List Entry)
      → IsObject bytes o rest → AreObjectEntries o front → AreObjects rest more → es ≡ front ++ more
      → AreObjects bytes es
  broken : {bytes : List ℕ} {es : List Entry} (why : ObjectRefusal) → 1 ≤ length bytes → object.Refuses bytes why
      → es ≡ broken_entry bytes (object_refusal_display why) ∷ [] → AreObjects bytes es

abbrev pub AreObjectsItems : List ℕ → List Item → Type 0
AreObjectsItems bytes items = (es : List Entry) × AreObjects bytes es × (items ≡ entries (codes "extensions") es ∷ [])

-- ---- structures

-- why there are no objects, and the octets of the structure that is refused
abbrev pub refused_items : List ℕ → List Item
refused_items why = field (codes "extensions_refused") (text why) ∷ []

abbrev pub refused_structure_items : List ℕ → List ℕ → List Item
refused_structure_items why bytes = refused_items why ++ (field (codes "extensions_octets") (octets bytes) ∷ [])

-- What a structure is held against, by whether its message is whole. The checksum is that of all octets, so where the
-- capture cut the message it is not verified.
abbrev pub header_checks : Bool → List ℕ → List (Check StructureRefusal)
header_checks true bytes = structure.checks bytes
header_checks false bytes =
    check (4 ≤ length bytes) StructureRefusal.Short
    ∷ check (version_in bytes ≡ 2) (StructureRefusal.Version (version_in bytes))
    ∷ []

-- A structure that ends behind its header: it has one or more objects (RFC 4884 section 7). Where the capture cut the
-- message they may be what is lacking.
abbrev pub LacksObjects : Bool → List ℕ → Type 0
LacksObjects is_whole bytes = IsTrue is_whole × (drop 4 bytes ≡ [])

abbrev pub no_object_text : List ℕ
no_object_text = codes "the extensions have no object"

-- a structure by its objects, or one that is refused
pub data AreStructureItems (is_whole : Bool) (bytes : List ℕ) (items : List Item) : Type 0 where
  objects : Passes (header_checks is_whole bytes) → (LacksObjects is_whole bytes → ⊥)
      → AreObjectsItems (drop 4 bytes) items → AreStructureItems is_whole bytes items
  no_objects : Passes (header_checks is_whole bytes) → LacksObjects is_whole bytes
      → items ≡ refused_structure_items no_object_text bytes → AreStructureItems is_whole bytes items
  refused : (why : StructureRefusal) → Fails (header_checks is_whole bytes) why
      → items ≡ refused_structure_items (structure_refusal_display why) bytes
      → AreStructureItems is_whole bytes items

abbrev pub AreExtensions : Bool → Option (List ℕ) → List Item → Type 0
AreExtensions is_whole None items = items ≡ []
AreExtensions is_whole (Some bytes) items = AreStructureItems is_whole bytes items

-- ---- errors

-- what an error has behind its header: what is quoted and extensions, or why these are not told apart
abbrev pub Division : Type 0
Division = Result PartsValue SplitRefusal

abbrev pub IsDivision : Family → ℕ → List ℕ → Division → Type 0
IsDivision f n bytes (Ok parts) = IsSplit f n bytes parts
IsDivision f n bytes (Err why) = split.Refuses f n bytes why

-- what is quoted: all where extensions are not told apart
abbrev pub quoted_in : Division → List ℕ → List ℕ
quoted_in (Ok parts) bytes = parts.quoted
quoted_in (Err why) bytes = bytes

-- the fields behind those of what is quoted, by whether the message is whole
abbrev pub AreBehind : Bool → Division → List Item → Type 0
AreBehind is_whole (Ok parts) items = AreExtensions is_whole parts.extensions items
AreBehind is_whole (Err why) items = items ≡ refused_items (split_refusal_display why)
