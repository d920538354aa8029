-- An extension structure (RFC 4884 section 7): its header, and objects.
--
--  0                   1                   2                   3
--  0 1 2 3 4 5 6 7 8 9 0 1 2 3 4 5 6 7 8 9 0 1 2 3 4 5 6 7 8 9 0 1
-- +-------+-----------------------+-------------------------------+
-- |version|       reserved        |           checksum            |
-- +-------+-----------------------+-------------------------------+
-- | objects
-- +- - - -
use Rattle.std.specs.Prelude.{◌≡◌, ℕ, ◌/◌, ◌≤◌, ◌⊎◌, List, [], ◌∷◌, length, drop}
use Rattle.wirebase.specs.Bytes.{Field, field, byte_of, number_of}
use Rattle.wirebase.specs.Checks.{Check, Fails, Passes, check}
use Rattle.wirebase.specs.Checksum.{IsGood}
use Rattle.extension_wire.specs.declared.refusal.StructureRefusal.{StructureRefusal}

abbrev pub version_field : Field
version_field = field 0 1

abbrev pub checksum_field : Field
checksum_field = field 2 4

-- the version is in the upper four bits of its byte
abbrev pub version_in : List ℕ → ℕ
version_in bytes = byte_of version_field bytes / 16

-- The checks, in their order: the header is there; the version is 2; and the checksum is that of all the bytes, or
-- zero, which says that none was computed.
abbrev pub checks : List ℕ → List (Check StructureRefusal)
checks bytes =
    check (4 ≤ length bytes) StructureRefusal.Short
    ∷ check (version_in bytes ≡ 2) (StructureRefusal.Version (version_in bytes))
    ∷ check ((number_of checksum_field bytes ≡ 0) ⊎ IsGood bytes 0) StructureRefusal.Checksum
    ∷ []

abbrev pub Refuses : List ℕ → StructureRefusal → Type 0
Refuses bytes why = Fails (checks bytes) why

-- The grammar: the bytes, all of them, are a structure with these objects.
pub record IsStructure (bytes objects : List ℕ) : Type 0 where
  pub passes : Passes (checks bytes)
  pub objects_are : objects ≡ drop 4 bytes
