-- What an error has behind the 8 bytes of its header (RFC 4884 section 3): the original datagram with its padding, and
-- an extension structure, where the length in the header says so.
use Rattle.std.specs.Prelude.{◌≡◌, ℕ, zero, suc, ◌*◌, ◌+◌, ◌≤◌, List, [], ◌∷◌, length, take, drop, Option, None, Some}
use Rattle.std.specs.Option.{option_map}
use Rattle.wirebase.specs.Checks.{Check, Fails, Passes, check}
use Rattle.wirebase.specs.Checksum.{IsGood}
use Rattle.extension_wire.specs.declared.family.Family.{Family}
use Rattle.extension_wire.specs.declared.refusal.SplitRefusal.{SplitRefusal}
use Rattle.extension_wire.specs.declared.split.Parts.{Parts}
use Rattle.extension_wire.specs.Structure.{version_in}

-- the bytes of a word that the length counts (RFC 4884 sections 4.1 and 4.4)
abbrev pub unit : Family → ℕ
unit Family.V4 = 4
unit Family.V6 = 8

-- the parts by their content
pub record PartsValue : Type 0 where
  pub quoted : List ℕ
  pub extensions : Option (List ℕ)

abbrev pub value_of : Parts → PartsValue
value_of parts = record { quoted = parts.quoted.now; extensions = option_map (λ some. some.now) parts.extensions }

-- The checks where the length is not 0, in their order: the original datagram has 128 bytes at least, and all of it is
-- there.
abbrev pub checks : Family → ℕ → List ℕ → List (Check SplitRefusal)
checks f zero bytes = []
checks f (suc n) bytes =
    check (128 ≤ unit f * suc n) SplitRefusal.Short
    ∷ check (unit f * suc n ≤ length bytes) SplitRefusal.Cut
    ∷ []

abbrev pub Refuses : Family → ℕ → List ℕ → SplitRefusal → Type 0
Refuses f n bytes why = Fails (checks f n bytes) why

-- some bytes, where there are any
abbrev pub some_of : List ℕ → Option (List ℕ)
some_of [] = None
some_of (x ∷ xs) = Some (x ∷ xs)

-- the bytes that are quoted: all where the length is 0, and else so many words
abbrev pub quoted_len : Family → ℕ → List ℕ → ℕ
quoted_len f zero bytes = length bytes
quoted_len f (suc n) bytes = unit f * suc n

-- The grammar: the bytes pass the checks, and these are their parts.
pub record IsSplit (f : Family) (n : ℕ) (bytes : List ℕ) (v : PartsValue) : Type 0 where
  pub passes : Passes (checks f n bytes)
  pub quoted_is : v.quoted ≡ take (quoted_len f n bytes) bytes
  pub extensions_are : v.extensions ≡ some_of (drop (quoted_len f n bytes) bytes)

-- a structure behind 128 bytes, with an object at least, that is seen by its content (RFC 4884 section 5.5)
abbrev pub IsStructureByContent : List ℕ → Type 0
IsStructureByContent bytes = (version_in bytes ≡ 2) × IsGood bytes 0

abbrev pub HasStructure : List ℕ → Type 0
HasStructure bytes = (128 + 8 ≤ length bytes) × IsStructureByContent (drop 128 bytes)

-- the parts where the length is not looked at
pub record IsSplitByContent (bytes : List ℕ) (v : PartsValue) : Type 0 where
  pub found : HasStructure bytes → (v.quoted ≡ take 128 bytes) × (v.extensions ≡ Some (drop 128 bytes))
  pub none : (HasStructure bytes → ⊥) → (v.quoted ≡ bytes) × (v.extensions ≡ None)
