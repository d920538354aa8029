-- The options of a header in turn (RFC 791 section 3.1). An option is its kind alone, or its kind, its length, which
-- counts both, and its data:
--
--  0                   1                   2                   3
--  0 1 2 3 4 5 6 7 8 9 0 1 2 3 4 5 6 7 8 9 0 1 2 3 4 5 6 7 8 9 0 1
-- +---------------+---------------+- - - -
-- |     kind      |    length     | data
-- +---------------+---------------+- - - -
use Rattle.std.specs.Prelude.{◌≡◌, ℕ, ◌+◌, ◌≤◌, List, [], ◌∷◌, ◌++◌, length, slice_index}
use Rattle.std.specs.Prelude.{Result, Ok, Err}
use Rattle.byteorder.specs.Endian.{big_number}
use Rattle.wirebase.specs.Checks.{Check, Fails, check}
use Rattle.header_wire.specs.declared.options.Ipv4Option.{Ipv4Option}
use Rattle.header_wire.specs.declared.options.OptionRefusal.{OptionRefusal}

-- an option by its content
pub data OptionValue : Type 0 where
  no_operation : OptionValue
  router_alert : ℕ → OptionValue
  other : ℕ → List ℕ → OptionValue

abbrev pub value_of : Ipv4Option → OptionValue
value_of Ipv4Option.NoOperation = no_operation
value_of (Ipv4Option.RouterAlert value) = router_alert value
value_of (Ipv4Option.Other kind d) = other kind d.now

-- These bytes, all of them, are this option. Kind 0 ends the list, and 1 is no operation; a router alert is kind 148
-- with two octets of data (RFC 2113).
abbrev pub IsOption : List ℕ → OptionValue → Type 0
IsOption bytes no_operation = bytes ≡ 1 ∷ []
IsOption bytes (router_alert value) =
    (d : List ℕ) × (bytes ≡ 148 ∷ 4 ∷ d) × (length d ≡ 2) × (value ≡ big_number 2 d)
IsOption bytes (other kind d) =
    (bytes ≡ kind ∷ (2 + length d) ∷ d) × (2 ≤ kind) × (kind ≡ 148 → length d ≡ 2 → ⊥)

-- the length of an option, by its second byte
abbrev pub length_in : List ℕ → ℕ
length_in bytes = slice_index bytes 1

-- the bytes begin with a kind that a length follows
abbrev pub IsCounted : List ℕ → Type 0
IsCounted bytes = (1 ≤ length bytes) × (2 ≤ slice_index bytes 0)

-- The checks of a length, in their order: it is there, it counts itself and the kind, and the option is there.
abbrev pub length_checks : List ℕ → List (Check OptionRefusal)
length_checks bytes =
    check (2 ≤ length bytes) OptionRefusal.NoLength
    ∷ check (2 ≤ length_in bytes) (OptionRefusal.Length (length_in bytes))
    ∷ check (length_in bytes ≤ length bytes) (OptionRefusal.Cut (length_in bytes))
    ∷ []

abbrev pub Refuses : List ℕ → OptionRefusal → Type 0
Refuses bytes why = IsCounted bytes × Fails (length_checks bytes) why

-- an answer: an option, or why none follows
abbrev pub Answer : Type 0
Answer = Result OptionValue OptionRefusal

-- Options one after another up to the end of the bytes, up to the option that ends the list, whatever follows it, or up
-- to a place where no whole option begins, which is answered by one refusal.
pub data Tile : List ℕ → List Answer → Type 0 where
  ends : Tile [] []
  list_ends : {bytes : List ℕ} → 1 ≤ length bytes → slice_index bytes 0 ≡ 0 → Tile bytes []
  goes_on : {bytes : List ℕ} {answers : List Answer} (front rest : List ℕ) (v : OptionValue)
      → IsOption front v → Tile rest answers → bytes ≡ front ++ rest → Tile bytes (Ok v ∷ answers)
  breaks : {bytes : List ℕ} (refusal : OptionRefusal) → Refuses bytes refusal → Tile bytes (Err refusal ∷ [])
