-- What an error with extensions has behind its header of 8 bytes (RFC 4884 sections 3 to 5, 7 and 8): the original
-- datagram, zeros, and an extension structure.
use Rattle.std.specs.Prelude.{◌≡◌, ℕ, ◌+◌, ◌-◌, ◌*◌, ◌/◌, ◌^◌, ◌<◌, ◌≤◌, nat_lt, if◌then◌else◌, List, [], ◌∷◌, ◌++◌}
use Rattle.std.specs.Prelude.{length, replicate, map, Some, Ok}
use Rattle.std.specs.List.{AllByRecursion, sum_by}
use Rattle.wirebase.specs.Bytes.{over}
use Rattle.wirebase.specs.ByteWriter.{be8, be16, fields}
use Rattle.wirebase.specs.Checksum.{sealed}
use Rattle.extension_wire.specs.declared.family.Family.{Family}
use Rattle.extension_wire.specs.declared.writer.ErrorData.{ErrorData}
use Rattle.extension_wire.specs.Object as object
use Rattle.extension_wire.specs.Object.{ObjectValue}
use Rattle.extension_wire.specs.Objects.{Tile}
use Rattle.extension_wire.specs.Split.{unit, IsSplit}
use Rattle.extension_wire.specs.Structure.{checksum_field, IsStructure}

-- it by its content
pub record DataValue : Type 0 where
  pub family : Family
  pub quoted : List ℕ
  pub objects : List ObjectValue

abbrev pub value_of : ErrorData → DataValue
value_of d = record { family = d.family; quoted = d.quoted.now; objects = map object.value_of d.objects.now }

-- ---- the text

-- the words of a quote of so many bytes with its padding: whole words, of 128 bytes at least (sections 3, 4.1 and 4.4)
abbrev pub quoted_words : Family → ℕ → ℕ
quoted_words f n = ((if nat_lt n 128 then 128 else n) + unit f - 1) / unit f

abbrev pub padded_len : Family → ℕ → ℕ
padded_len f n = unit f * quoted_words f n

abbrev pub quoted_fields : Family → List ℕ → List (List ℕ)
quoted_fields f quoted = quoted ∷ replicate (padded_len f (length quoted) - length quoted) 0 ∷ []

-- the quote with its padding
abbrev pub padded : Family → List ℕ → List ℕ
padded f quoted = quoted ++ replicate (padded_len f (length quoted) - length quoted) 0

-- the objects one after another, and the structure that has them
abbrev pub objects_len : List ObjectValue → ℕ
objects_len objects = sum_by object.text_len objects

abbrev pub objects_text : List ObjectValue → List ℕ
objects_text objects = fields (map object.text objects)

abbrev pub structure_fields : List ObjectValue → List (List ℕ)
structure_fields objects = be8 0x20 ∷ be8 0 ∷ be16 0 ∷ map object.text objects

abbrev pub structure_text : List ObjectValue → List ℕ
structure_text objects = sealed checksum_field (fields (structure_fields objects)) 0

abbrev pub data_fields : DataValue → List (List ℕ)
data_fields v = quoted_fields v.family v.quoted ++ structure_text v.objects ∷ []

abbrev pub text : DataValue → List ℕ
text v = fields (data_fields v)

abbrev pub text_len : DataValue → ℕ
text_len v = padded_len v.family (length v.quoted) + (4 + objects_len v.objects)

-- the length in the error's header
abbrev pub length_of : DataValue → ℕ
length_of v = quoted_words v.family (length v.quoted)

-- ---- what is written

-- the requirements on it and on the octets that it is written into
pub record CanEmit (v : DataValue) (bytes : List ℕ) : Type 0 where
  pub room : text_len v ≤ length bytes
  pub fits : text_len v < 2 ^ 16
  pub words : length_of v < 2 ^ 8

-- What is read in the text of it: by its length it splits into the padded quote and the structure, which has a good
-- header, and these objects.
pub record ReadsBack (v : DataValue) : Type 0 where
  pub splits :
      IsSplit v.family (length_of v) (text v)
      (record { quoted = padded v.family v.quoted; extensions = Some (structure_text v.objects) })
  pub structure : IsStructure (structure_text v.objects) (objects_text v.objects)
  pub objects : AllByRecursion object.IsCanonical v.objects → Tile (objects_text v.objects) (map Ok v.objects)

-- what writing it over `old` leaves: its text over the front, and where `old` has exactly its length, that alone
pub record Emits (v : DataValue) (old new : List ℕ) : Type 0 where
  pub written : new ≡ over old (text v)
  pub exact : length old ≡ text_len v → new ≡ text v
  pub reads_back : ReadsBack v
