-- The options of a message of neighbor discovery in turn (RFC 4861 section 4.6): blocks one after another.
use Rattle.std.specs.Prelude.{ℕ, zero, suc, ◌*◌, ◌==◌, nat_le, Bool, true, false, ◌&&◌, if◌then◌else◌, List, [], ◌∷◌}
use Rattle.std.specs.Prelude.{length, take, drop, Ok, Err}
use Rattle.opt_wire.specs.Words.{byte_of}
use Rattle.opt_wire.specs.NdiscOption.{type_field, units_in}
use Rattle.opt_wire.specs.NdiscOptionTables.{type_of}
use Rattle.opt_wire.specs.declared.ndiscoption.refusal.Refusal.{Refusal}
use Rattle.opt_wire.specs.NdiscOptionBlocks.{Answer}

-- the fewest units of a block of this type
abbrev pub least_units : ℕ → ℕ
least_units t = if t == 3 then 4 else if t == 4 then 6 else 1

-- whether the bytes begin with a block
abbrev pub begins_with_block : List ℕ → Bool
begins_with_block bytes =
    nat_le 8 (length bytes) && (nat_le (least_units (byte_of type_field bytes)) (units_in bytes)
    && nat_le (8 * units_in bytes) (length bytes))

-- why bytes begin with no block, by whether they are 8 or more, count one unit or more, and hold all that they count
abbrev pub reason_by : Bool → Bool → Bool → List ℕ → Refusal
reason_by false some whole bytes = Refusal.Short
reason_by true false whole bytes = Refusal.Zero
reason_by true true false bytes = Refusal.Cut (8 * units_in bytes)
reason_by true true true bytes = Refusal.Length (type_of (byte_of type_field bytes)) (units_in bytes)

abbrev pub reason_of : List ℕ → Refusal
reason_of bytes =
    reason_by (nat_le 8 (length bytes)) (nat_le 1 (units_in bytes)) (nat_le (8 * units_in bytes) (length bytes)) bytes

-- the answers, in at most a given number of blocks; a block takes a byte at least
abbrev pub after_block : Bool → ℕ → List ℕ → (List ℕ → List Answer) → List Answer
after_block true len bytes go = Ok (take len bytes) ∷ go (drop len bytes)
after_block false len bytes go = Err (reason_of bytes) ∷ []

unfoldable pub blocks_within : ℕ → List ℕ → List Answer
blocks_within most [] = []
blocks_within zero (t ∷ rest) = []
blocks_within (suc most) (t ∷ rest) =
    after_block (begins_with_block (t ∷ rest)) (8 * units_in (t ∷ rest)) (t ∷ rest) (blocks_within most)

abbrev pub blocks_of : List ℕ → List Answer
blocks_of bytes = blocks_within (length bytes) bytes
