-- Data with fields before one name or two and after them, whose names are read, and its text in a zone file.
use Rattle.std.specs.Prelude.{◌≡◌, ◌+◌, ◌*◌, ◌/◌, ◌%◌, ◌==◌, ◌⊎◌, [], ◌∷◌, ◌++◌, List, None, Option, Some, ℕ, codes}
use Rattle.std.specs.Prelude.{decimal, flat_map, if◌then◌else◌, length}
use Rattle.record_wire.specs.Words.{NameRefusal, Signed, pieces, type_display, type_of}
use Rattle.record_wire.specs.declared.name.Name.{Name}
use Rattle.record_wire.specs.Ahead.{ahead}
use Rattle.record_wire.specs.Fields.{FieldsValue, FrontValue, no_front, numbered, rule, signs, front_of, rest_of}
use Rattle.record_wire.specs.Fields.{RestValue, no_rest, signature, one_map, all_maps, MapValue, first_map}
use Rattle.record_wire.specs.Name.{labels_of}
use Rattle.record_wire.specs.NameRefusal.{RefusesName, HasName}
use Rattle.record_wire.specs.Names.{Names}
use Rattle.record_wire.specs.Strings.{strings_in}
use Rattle.record_wire.specs.ZoneText.{word, whole_name, strings_text, base64}
use Rattle.record_wire.specs.declared.text.fields.FieldsText.{FieldsText}

-- ---- the fields by content: of each name its labels

pub record FieldsTextValue : Type 0 where
  pub front : FrontValue
  pub first : List (List ℕ)
  pub second : Option (List (List ℕ))
  pub «rest» : RestValue

abbrev pub labels_in : Option Name → Option (List (List ℕ))
labels_in None = None
labels_in (Some name) = Some (labels_of name)

abbrev pub fields_text_of : FieldsText → FieldsTextValue
fields_text_of read = record {
  front = front_of read.front;
  first = labels_of read.first;
  second = labels_in read.second;
  «rest» = rest_of read.«rest»;
}

-- ---- what is read, in a message

abbrev pub IsSecondText : List ℕ → Option (List ℕ) → Option (List (List ℕ)) → Type 0
IsSecondText message None value = value ≡ None
IsSecondText message (Some bytes) value =
    (labels : List (List ℕ)) × Names message bytes labels × (value ≡ Some labels)

pub record IsFieldsText (message : List ℕ) (fields : FieldsValue) (value : FieldsTextValue) : Type 0 where
  pub front_is : value.front ≡ fields.front
  pub first : Names message fields.first value.first
  pub second_is : IsSecondText message fields.second value.second
  pub rest_is : value.«rest» ≡ fields.«rest»

-- ---- what is refused: the first name that can't be read

abbrev pub RefusesSecondIn : List ℕ → Option (List ℕ) → NameRefusal → Type 0
RefusesSecondIn message None why = ⊥
RefusesSecondIn message (Some bytes) why = RefusesName bytes message why

abbrev pub RefusesNamesIn : List ℕ → FieldsValue → NameRefusal → Type 0
RefusesNamesIn message fields why =
    RefusesName fields.first message why
    ⊎ (HasName fields.first message × RefusesSecondIn message fields.second why)

-- ---- texts

-- the fields of a signature in their order, times in seconds since 1970 began (RFC 4034 section 3.2)
abbrev pub signature_text : Signed → List ℕ
signature_text s =
    pieces (type_display s.covered ∷ codes " " ∷ decimal s.algorithm ∷ codes " " ∷ decimal s.labels
    ∷ codes " " ∷ decimal s.original_ttl ∷ codes " " ∷ decimal s.expiration
    ∷ codes " " ∷ decimal s.inception ∷ codes " " ∷ decimal s.key_tag ∷ [])

-- each field before the names, and a space after it
abbrev pub front_text : FrontValue → List ℕ
front_text no_front = []
front_text (numbered n) = pieces (decimal n ∷ codes " " ∷ [])
front_text (rule order preference strings) =
    pieces (decimal order ∷ codes " " ∷ decimal preference ∷ codes " " ∷ strings_text (strings_in strings)
    ∷ codes " " ∷ [])
front_text (signs s) = pieces (signature_text s ∷ codes " " ∷ [])

abbrev pub second_text : Option (List (List ℕ)) → List ℕ
second_text None = []
second_text (Some labels) = word (whole_name labels)

-- the type of this number after a space, where the least significant bit is set
abbrev pub bit_text : ℕ → ℕ → List ℕ
bit_text bits number = if bits % 2 == 0 then [] else word (type_display (type_of number))

-- numbers of types have 16 bits
abbrev pub number_at : ℕ → ℕ → ℕ
number_at first i = (first + i) % 65536

-- the types of a byte, beginning with its most significant bit
unfoldable pub byte_text : ℕ → ℕ → List ℕ
byte_text first byte =
    pieces (bit_text (byte / 128) first
    ∷ bit_text (byte / 64) (number_at first 1)
    ∷ bit_text (byte / 32) (number_at first 2)
    ∷ bit_text (byte / 16) (number_at first 3)
    ∷ bit_text (byte / 8) (number_at first 4)
    ∷ bit_text (byte / 4) (number_at first 5)
    ∷ bit_text (byte / 2) (number_at first 6)
    ∷ bit_text byte (number_at first 7) ∷ [])

-- the types of a map, beginning with its first bit
unfoldable pub map_text : ℕ → List ℕ → List ℕ
map_text first [] = []
map_text first (byte ∷ rest) = byte_text first byte ++ map_text (number_at first 8) rest

abbrev pub types_text : MapValue → List ℕ
types_text m = map_text (m.upper * 256) m.map

abbrev pub maps_in : List ℕ → List MapValue
maps_in bytes = ahead first_map bytes

abbrev pub maps_text : List ℕ → List ℕ
maps_text bytes = flat_map types_text (maps_in bytes)

abbrev pub rest_text : RestValue → List ℕ
rest_text no_rest = []
rest_text (signature bytes) = word (base64 bytes)
rest_text (one_map bytes) = map_text 0 bytes
rest_text (all_maps bytes) = maps_text bytes

abbrev pub fields_text : FieldsTextValue → List ℕ
fields_text fields =
    pieces (front_text fields.front ∷ whole_name fields.first ∷ second_text fields.second
    ∷ rest_text fields.«rest» ∷ [])

-- the text in normal form: its names have the lengths of their labels
abbrev pub names_display : List ℕ → Option (List ℕ) → List ℕ
names_display first None = pieces (codes "name_len=" ∷ decimal (length first) ∷ [])
names_display first (Some second) =
    pieces (codes "first_len=" ∷ decimal (length first) ∷ codes " second_len=" ∷ decimal (length second) ∷ [])

abbrev pub fields_display : FieldsValue → List ℕ
fields_display fields =
    pieces (front_text fields.front ∷ names_display fields.first fields.second ∷ rest_text fields.«rest» ∷ [])
