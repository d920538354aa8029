-- The options of a message of neighbor discovery in turn (RFC 4861 section 4.6): blocks one after another.
use Rattle.std.specs.Prelude.{◌≡◌, ◌⊎◌, ℕ, ◌*◌, List, [], ◌∷◌, ◌++◌, length, Option, None, Some, Result, Ok, Err}
use Rattle.opt_wire.specs.NdiscOption.{units_in, BeginsWithBlock}
use Rattle.opt_wire.specs.NdiscOptionRepr.{OptionValue, value_of, BeginsWith}
use Rattle.opt_wire.specs.NdiscOptionRefusal.{Refuses}
use Rattle.opt_wire.specs.declared.ndiscoption.refusal.Refusal.{Refusal}
use Rattle.opt_wire.specs.declared.ndiscoption.repr.Repr.{Repr}

-- an answer: all the bytes of a block, or why none follows
abbrev pub Answer : Type 0
Answer = Result (List ℕ) Refusal

-- Blocks one after another up to the end of the bytes, or up to a place where none begins, which is answered by one
-- refusal: the reason why the bytes from there on begin with no option.
pub data Tile : List ℕ → List Answer → Type 0 where
  ends : Tile [] []
  goes_on : {bytes : List ℕ} {answers : List Answer} (block rest : List ℕ)
      → BeginsWithBlock bytes → length block ≡ 8 * units_in bytes → Tile rest answers → bytes ≡ block ++ rest
      → Tile bytes (Ok block ∷ answers)
  breaks : {bytes : List ℕ} (refusal : Refusal)
      → (bytes ≡ [] → ⊥) → (BeginsWithBlock bytes → ⊥) → Refuses bytes refusal → Tile bytes (Err refusal ∷ [])

-- no option is read in the block
abbrev pub IsUnread : List ℕ → Type 0
IsUnread block = (value : OptionValue) → BeginsWith block value → ⊥

-- A call of `next` takes off the first answer, and gives what is read in that block, or why no option is read in it, or
-- why no block follows; where no answer is left it gives None, and none is left still.
abbrev pub GivesOption : List Answer → Option (Result Repr Refusal) → List Answer → Type 0
GivesOption old None new = (old ≡ []) × (new ≡ [])
GivesOption old (Some (Ok repr)) new = (block : List ℕ) × BeginsWith block (value_of repr) × (old ≡ Ok block ∷ new)
GivesOption old (Some (Err refusal)) new =
    (old ≡ Err refusal ∷ new)
    ⊎ ((block : List ℕ) × IsUnread block × Refuses block refusal × (old ≡ Ok block ∷ new))

-- ---- the answers as they are computed, which the iterator's model needs
