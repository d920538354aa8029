-- Data with fields before one or two names and after them: of MINFO (RFC 1035 section 3.3.7), RP, AFSDB and RT (RFC
-- 1183), PX (RFC 2163), KX (RFC 2230), SIG and NXT (RFC 2535), NAPTR (RFC 3403) and NSEC (RFC 4034 section 4).
use Rattle.std.specs.Prelude.{◌≡◌, ◌≤◌, ◌<◌, ◌&&◌, [], ◌∷◌, ◌++◌, Bool, List, None, Option, Some, ℕ, drop, false}
use Rattle.std.specs.Prelude.{flat_map, if◌then◌else◌, length, nat_le, slice_index, take, true}
use Rattle.std.specs.Borrow.{Bor}
use Rattle.std.specs.List.{AllByRecursion}
use Rattle.record_wire.specs.Words.{Field, Form, FrontForm, IsSplit, RestForm, Signed, field, number_of, type_of}
use Rattle.record_wire.specs.Words.{written}
use Rattle.wirebase.specs.Bytes.{byte_of}
use Rattle.record_wire.specs.declared.rdata.fields.Fields.{Fields}
use Rattle.record_wire.specs.declared.rdata.fields.Front.{Front}
use Rattle.record_wire.specs.declared.rdata.fields.Rest.{Rest}

-- ---- the fields by content

pub data FrontValue : Type 0 where
  no_front : FrontValue
  numbered : ℕ → FrontValue
  rule : ℕ → ℕ → List ℕ → FrontValue
  signs : Signed → FrontValue

pub data RestValue : Type 0 where
  no_rest : RestValue
  signature : List ℕ → RestValue
  one_map : List ℕ → RestValue
  all_maps : List ℕ → RestValue

pub record FieldsValue : Type 0 where
  pub front : FrontValue
  pub first : List ℕ
  pub second : Option (List ℕ)
  pub «rest» : RestValue

abbrev pub front_of : Front → FrontValue
front_of Front.Nothing = no_front
front_of (Front.Number n) = numbered n
front_of (Front.Rule order preference strings) = rule order preference strings.now
front_of (Front.Signed s) = signs s

abbrev pub rest_of : Rest → RestValue
rest_of Rest.Nothing = no_rest
rest_of (Rest.Signature bytes) = signature bytes.now
rest_of (Rest.Bits bytes) = one_map bytes.now
rest_of (Rest.Types bytes) = all_maps bytes.now

abbrev pub name_of : Option (Bor (List ℕ)) → Option (List ℕ)
name_of None = None
name_of (Some bytes) = Some bytes.now

abbrev pub fields_of : Fields → FieldsValue
fields_of fields = record {
  front = front_of fields.front;
  first = fields.first.now;
  second = name_of fields.second;
  «rest» = rest_of fields.«rest»;
}

-- ---- before the names

abbrev pub number_field : Field
number_field = field 0 2

abbrev pub order_field : Field
order_field = field 0 2

abbrev pub preference_field : Field
preference_field = field 2 4

abbrev pub covered_field : Field
covered_field = field 0 2

abbrev pub algorithm_field : Field
algorithm_field = field 2 3

abbrev pub labels_field : Field
labels_field = field 3 4

abbrev pub original_ttl_field : Field
original_ttl_field = field 4 8

abbrev pub expiration_field : Field
expiration_field = field 8 12

abbrev pub inception_field : Field
inception_field = field 12 16

abbrev pub key_tag_field : Field
key_tag_field = field 16 18

-- what a signature covers (RFC 2535 section 4.1)
abbrev pub signature_in : List ℕ → Signed
signature_in bytes = record {
  covered = type_of (number_of covered_field bytes);
  algorithm = byte_of algorithm_field bytes;
  labels = byte_of labels_field bytes;
  original_ttl = number_of original_ttl_field bytes;
  expiration = number_of expiration_field bytes;
  inception = number_of inception_field bytes;
  key_tag = number_of key_tag_field bytes;
}

-- three strings are at the start of the bytes: flags, services and a regular expression (RFC 3403 section 4.1)
pub record AreThree (bytes strings rest : List ℕ) : Type 0 where
  pub flags : List ℕ
  pub services : List ℕ
  pub expression : List ℕ
  pub are : strings ≡ written flags ++ (written services ++ written expression)
  pub whole : bytes ≡ strings ++ rest

-- a number
pub record IsNumber (bytes : List ℕ) (value : FrontValue) (rest : List ℕ) : Type 0 where
  pub reaches : 2 ≤ length bytes
  pub is : value ≡ numbered (number_of number_field bytes)
  pub rest_is : rest ≡ drop 2 bytes

-- an order, a preference, and three strings
pub record IsRule (bytes : List ℕ) (value : FrontValue) (rest : List ℕ) : Type 0 where
  pub strings : List ℕ
  pub reaches : 4 ≤ length bytes
  pub three : AreThree (drop 4 bytes) strings rest
  pub is : value ≡ rule (number_of order_field bytes) (number_of preference_field bytes) strings

-- what a signature covers
pub record IsSignature (bytes : List ℕ) (value : FrontValue) (rest : List ℕ) : Type 0 where
  pub reaches : 18 ≤ length bytes
  pub is : value ≡ signs (signature_in bytes)
  pub rest_is : rest ≡ drop 18 bytes

-- these fields are at the start of the bytes, followed by a rest
abbrev pub IsFront : FrontForm → List ℕ → FrontValue → List ℕ → Type 0
IsFront FrontForm.Nothing bytes value rest = (value ≡ no_front) × (rest ≡ bytes)
IsFront FrontForm.Number bytes value rest = IsNumber bytes value rest
IsFront FrontForm.Rule bytes value rest = IsRule bytes value rest
IsFront FrontForm.Signed bytes value rest = IsSignature bytes value rest

-- ---- names

-- a second name, where there are two, followed by a rest
abbrev pub IsSecond : Bool → List ℕ → Option (List ℕ) → List ℕ → Type 0
IsSecond false bytes value rest = (value ≡ None) × (rest ≡ bytes)
IsSecond true bytes value rest = (name : List ℕ) × (value ≡ Some name) × IsSplit bytes name rest

-- ---- after the names

-- A map of types below 128, a bit for each. That of type 0 is clear: where it is set, a map has another form (RFC 2535
-- section 5.2).
pub record IsMap (bytes : List ℕ) : Type 0 where
  pub len : length bytes ≤ 16
  pub first : slice_index bytes 0 < 128

-- maps of 1 to 32 bytes, each after the upper byte of its types and its length (RFC 4034 section 4.1.2)
pub record MapValue : Type 0 where
  pub upper : ℕ
  pub map : List ℕ

pub record IsTypesMap (m : MapValue) : Type 0 where
  pub some : 1 ≤ length m.map
  pub most : length m.map ≤ 32

abbrev pub map_bytes : MapValue → List ℕ
map_bytes m = m.upper ∷ length m.map ∷ m.map

pub record AreMaps (bytes : List ℕ) : Type 0 where
  pub maps : List MapValue
  pub each : AllByRecursion IsTypesMap maps
  pub whole : bytes ≡ flat_map map_bytes maps

-- the fields after the names are all of the bytes
abbrev pub IsRest : RestForm → List ℕ → RestValue → Type 0
IsRest RestForm.Nothing bytes value = (bytes ≡ []) × (value ≡ no_rest)
IsRest RestForm.Signature bytes value = value ≡ signature bytes
IsRest RestForm.Bits bytes value = IsMap bytes × (value ≡ one_map bytes)
IsRest RestForm.Types bytes value = AreMaps bytes × (value ≡ all_maps bytes)

-- ---- data

pub record IsFields (form : Form) (bytes : List ℕ) (value : FieldsValue) : Type 0 where
  pub behind_front : List ℕ
  pub behind_first : List ℕ
  pub behind_second : List ℕ
  pub front_is : IsFront form.front bytes value.front behind_front
  pub first : IsSplit behind_front value.first behind_first
  pub second_is : IsSecond form.has_two behind_first value.second behind_second
  pub rest_is : IsRest form.«rest» behind_second value.«rest»

-- ---- as computed

-- the first map, and what follows it
abbrev pub first_map : List ℕ → Option (MapValue × List ℕ)
first_map [] = None
first_map (upper ∷ []) = None
first_map (upper ∷ n ∷ rest) =
    if nat_le 1 n && nat_le n 32 && nat_le n (length rest)
    then Some (record { upper = upper; map = take n rest }, drop n rest)
    else None
