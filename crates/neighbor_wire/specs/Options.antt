-- The options of a message of neighbor discovery in turn (RFC 4861 section 4.6): blocks of whole units, one after
-- another.
use Rattle.std.specs.Prelude.{◌≡◌, ◌⊎◌, ℕ, ◌*◌, ◌≤◌, List, [], ◌∷◌, ◌++◌, length, map, Option, None, Some}
use Rattle.std.specs.Prelude.{Result, Ok, Err}
use Rattle.wirebase.specs.Checks.{Check, Fails, Passes, check}
use Rattle.neighbor_wire.specs.declared.option.NeighborOption.{NeighborOption}
use Rattle.neighbor_wire.specs.declared.refusal.Refusal.{Refusal}
use Rattle.neighbor_wire.specs.Option.{value_of, units_in, IsOption, Refuses}

-- the checks that the bytes begin with a block, which counts one unit or more
abbrev pub block_checks : List ℕ → List (Check Refusal)
block_checks bytes =
    check (8 ≤ length bytes) Refusal.Short
    ∷ check (1 ≤ units_in bytes) Refusal.Zero
    ∷ check (8 * units_in bytes ≤ length bytes) (Refusal.Counted (8 * units_in bytes))
    ∷ []

-- an answer: all the bytes of a block, or why none follows
abbrev pub Answer : Type 0
Answer = Result (List ℕ) Refusal

-- Blocks one after another up to the end of the bytes, or up to a place where none begins, which is answered by one
-- refusal: the reason why the bytes from there on begin with no block.
pub data Tile : List ℕ → List Answer → Type 0 where
  ends : Tile [] []
  goes_on : {bytes : List ℕ} {answers : List Answer} (block rest : List ℕ)
      → Passes (block_checks bytes) → length block ≡ 8 * units_in bytes → Tile rest answers → bytes ≡ block ++ rest
      → Tile bytes (Ok block ∷ answers)
  breaks : {bytes : List ℕ} (refusal : Refusal)
      → (bytes ≡ [] → ⊥) → Fails (block_checks bytes) refusal → Tile bytes (Err refusal ∷ [])

-- the bytes are these blocks, one after another, and nothing else
abbrev pub AreBlocks : List ℕ → List (List ℕ) → Type 0
AreBlocks bytes blocks = Tile bytes (map Ok blocks)

-- A call of `next` takes off the first answer, and gives the option that this block is, or why it is none, or why no
-- block follows; where no answer is left it gives None, and none is left still.
abbrev pub GivesOption : List Answer → Option (Result NeighborOption Refusal) → List Answer → Type 0
GivesOption old None new = (old ≡ []) × (new ≡ [])
GivesOption old (Some (Ok option)) new =
    (block : List ℕ) × IsOption block (value_of option) × (old ≡ Ok block ∷ new)
GivesOption old (Some (Err refusal)) new =
    (old ≡ Err refusal ∷ new) ⊎ ((block : List ℕ) × Refuses block refusal × (old ≡ Ok block ∷ new))
