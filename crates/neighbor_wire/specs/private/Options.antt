-- The answers as they are computed, which the iterator's model needs.
use Rattle.std.specs.Prelude.{ℕ, zero, suc, ◌*◌, nat_le, Bool, true, false, ◌&&◌, List, [], ◌∷◌, length, take, drop}
use Rattle.std.specs.Prelude.{Ok, Err}
use Rattle.neighbor_wire.specs.declared.refusal.Refusal.{Refusal}
use Rattle.neighbor_wire.specs.Option.{units_in}
use Rattle.neighbor_wire.specs.Options.{Answer}

-- whether the bytes begin with a block
abbrev pub begins_with_block : List ℕ → Bool
begins_with_block bytes =
    nat_le 8 (length bytes) && (nat_le 1 (units_in bytes) && nat_le (8 * units_in bytes) (length bytes))

-- why bytes begin with no block, by whether they are 8 or more, and count one unit or more
abbrev pub reason_by : Bool → Bool → List ℕ → Refusal
reason_by false some bytes = Refusal.Short
reason_by true false bytes = Refusal.Zero
reason_by true true bytes = Refusal.Counted (8 * units_in bytes)

abbrev pub reason_of : List ℕ → Refusal
reason_of bytes = reason_by (nat_le 8 (length bytes)) (nat_le 1 (units_in bytes)) bytes

-- the answers, in at most a given number of blocks; a block takes a byte at least
abbrev pub after_block : Bool → ℕ → List ℕ → (List ℕ → List Answer) → List Answer
after_block true len bytes go = Ok (take len bytes) ∷ go (drop len bytes)
after_block false len bytes go = Err (reason_of bytes) ∷ []

unfoldable pub blocks_within : ℕ → List ℕ → List Answer
blocks_within most [] = []
blocks_within zero (t ∷ rest) = []
blocks_within (suc most) (t ∷ rest) =
    after_block (begins_with_block (t ∷ rest)) (8 * units_in (t ∷ rest)) (t ∷ rest) (blocks_within most)

abbrev pub blocks_of : List ℕ → List Answer
blocks_of bytes = blocks_within (length bytes) bytes
