-- An object of an extension structure (RFC 4884 section 8).
--
--  0                   1                   2                   3
--  0 1 2 3 4 5 6 7 8 9 0 1 2 3 4 5 6 7 8 9 0 1 2 3 4 5 6 7 8 9 0 1
-- +-------------------------------+---------------+---------------+
-- |  length, with these 4 bytes   |     class     |    C-Type     |
-- +-------------------------------+---------------+---------------+
-- | payload
-- +- - - -
use Rattle.std.specs.Prelude.{◌≡◌, ℕ, ◌+◌, ◌<◌, ◌≤◌, ◌^◌, List, [], ◌∷◌, length, drop}
use Rattle.wirebase.specs.Bytes.{Field, field, part, over, byte_of, number_of}
use Rattle.wirebase.specs.ByteWriter.{be8, be16, fields}
use Rattle.wirebase.specs.Checks.{Check, Fails, Passes, check}
use Rattle.wirebase.specs.Format.{Format, RoundTrips}
use Rattle.extension_wire.specs.declared.object.Object.{Object}
use Rattle.extension_wire.specs.declared.refusal.ObjectRefusal.{ObjectRefusal}

abbrev pub length_field : Field
length_field = field 0 2

abbrev pub class_field : Field
class_field = field 2 3

abbrev pub c_type_field : Field
c_type_field = field 3 4

-- an object by its content
pub record ObjectValue : Type 0 where
  pub class : ℕ
  pub c_type : ℕ
  pub payload : List ℕ

abbrev pub value_of : Object → ObjectValue
value_of object = record { class = object.class; c_type = object.c_type; payload = object.payload.now }

-- the bytes that an object takes, and its fields
abbrev pub text_len : ObjectValue → ℕ
text_len v = 4 + length v.payload

abbrev pub object_fields : ObjectValue → List (List ℕ)
object_fields v = be16 (text_len v) ∷ be8 v.class ∷ be8 v.c_type ∷ v.payload ∷ []

abbrev pub text : ObjectValue → List ℕ
text v = fields (object_fields v)

-- the bytes of the object at the front of some bytes, by its length
abbrev pub object_len_in : List ℕ → ℕ
object_len_in bytes = number_of length_field bytes

-- The checks, in their order: the header is there; the length counts it; and there are as many bytes.
abbrev pub checks : List ℕ → List (Check ObjectRefusal)
checks bytes =
    check (4 ≤ length bytes) ObjectRefusal.Short
    ∷ check (4 ≤ object_len_in bytes) ObjectRefusal.Length
    ∷ check (object_len_in bytes ≤ length bytes) ObjectRefusal.Cut
    ∷ []

abbrev pub Refuses : List ℕ → ObjectRefusal → Type 0
Refuses bytes why = Fails (checks bytes) why

-- The grammar: these bytes begin with this object, and this is what follows it.
pub record IsObject (bytes : List ℕ) (v : ObjectValue) (rest : List ℕ) : Type 0 where
  pub passes : Passes (checks bytes)
  pub class_is : v.class ≡ byte_of class_field bytes
  pub c_type_is : v.c_type ≡ byte_of c_type_field bytes
  pub payload_is : v.payload ≡ part bytes 4 (object_len_in bytes)
  pub rest_is : rest ≡ drop (object_len_in bytes) bytes

-- an object that its own text gives back: each number fits its field
pub record IsCanonical (v : ObjectValue) : Type 0 where
  pub len : text_len v < 2 ^ 16
  pub class : v.class < 256
  pub c_type : v.c_type < 256

-- the format; each value is its normal form, and none is an exception
abbrev pub format : Format ObjectValue
format =
    record {
      Reads = λ bytes v. (rest : List ℕ) × IsObject bytes v rest;
      Fills = Unit {0};
      text = text;
      IsCanonical = IsCanonical;
      IsException = λ v. ⊥;
      norm = λ v. v;
      IsCut = λ v. ⊥;
    }

-- what writing an object over `old` leaves: its text over the front, and where `old` has exactly its length, that alone
pub record Emits (v : ObjectValue) (old new : List ℕ) : Type 0 where
  pub written : new ≡ over old (text v)
  pub exact : length old ≡ text_len v → new ≡ text v
  pub round_trips : RoundTrips format v
