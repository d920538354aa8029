-- The answers of an iterator over options: the tiling of the bytes by options.
use Rattle.std.specs.Prelude.{◌≡◌, ℕ, List, [], ◌∷◌, ◌++◌, Result, Ok, Err}
use Rattle.wirebase.specs.declared.error.Error.{Error}
use Rattle.opt_wire.specs.Ipv6Option.{OptionValue, IsOption, BeginsWith}

-- an answer: an option, or the refusal of what follows
abbrev pub Answer : Type 0
Answer = Result OptionValue Error

-- Options one after another up to the end of the bytes, or up to a place where none begins, which is answered by one
-- refusal (RFC 8200 section 4.2).
pub data Tile : List ℕ → List Answer → Type 0 where
  ends : Tile [] []
  goes_on : {bytes : List ℕ} {answers : List Answer} (front rest : List ℕ) (v : OptionValue)
      → IsOption front v → Tile rest answers → bytes ≡ front ++ rest → Tile bytes (Ok v ∷ answers)
  breaks : {bytes : List ℕ} (refusal : Error)
      → (bytes ≡ [] → ⊥) → ((v : OptionValue) → BeginsWith bytes v → ⊥) → Tile bytes (Err refusal ∷ [])
