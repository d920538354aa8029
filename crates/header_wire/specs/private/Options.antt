-- The options as they are computed, which the iterator's model needs. They are those of the tiling.
use Rattle.std.specs.Prelude.{◌≡◌, ◌⊎◌, ◌≤◌, slice_index}
use Rattle.std.specs.Prelude.{ℕ, zero, suc, ◌==◌, nat_le, Bool, true, false, ◌&&◌, if◌then◌else◌, List, [], ◌∷◌}
use Rattle.std.specs.Prelude.{length, take, drop, Ok, Err}
use Rattle.byteorder.specs.Endian.{big_number}
use Rattle.header_wire.specs.Options.{OptionValue, no_operation, router_alert, other, length_in, Answer}
use Rattle.header_wire.specs.declared.options.OptionRefusal.{OptionRefusal}

-- the length of the option at the front of some bytes
abbrev pub option_len_in : List ℕ → ℕ
option_len_in bytes = if slice_index bytes 0 == 1 then 1 else length_in bytes

-- the bytes are one option by its own length
abbrev pub IsWhole : List ℕ → Type 0
IsWhole bytes = (bytes ≡ 1 ∷ []) ⊎ ((2 ≤ length bytes) × (2 ≤ slice_index bytes 0) × (length_in bytes ≡ length bytes))

-- an option of this kind with this data
abbrev pub counted_value : ℕ → List ℕ → OptionValue
counted_value kind d = if (kind == 148) && (length d == 2) then router_alert (big_number 2 d) else other kind d

-- what an option with a length, and what follows it, give: by whether the length is there, counts two or more, and
-- counts no more than there is
abbrev pub after_counted : Bool → Bool → Bool → ℕ → List ℕ → (List ℕ → List Answer) → List Answer
after_counted false some whole kind bytes go = Err OptionRefusal.NoLength ∷ []
after_counted true false whole kind bytes go = Err (OptionRefusal.Length (length_in bytes)) ∷ []
after_counted true true false kind bytes go = Err (OptionRefusal.Cut (length_in bytes)) ∷ []
after_counted true true true kind bytes go =
    Ok (counted_value kind (drop 2 (take (length_in bytes) bytes))) ∷ go (drop (length_in bytes) bytes)

-- the answers, in at most a given number of options; an option takes a byte at least
unfoldable pub answers_within : ℕ → List ℕ → List Answer
answers_within most [] = []
answers_within zero (kind ∷ rest) = []
answers_within (suc most) (zero ∷ rest) = []
answers_within (suc most) (suc zero ∷ rest) = Ok no_operation ∷ answers_within most rest
answers_within (suc most) (suc (suc k) ∷ rest) =
    after_counted (nat_le 2 (length (suc (suc k) ∷ rest))) (nat_le 2 (length_in (suc (suc k) ∷ rest)))
    (nat_le (length_in (suc (suc k) ∷ rest)) (length (suc (suc k) ∷ rest))) (suc (suc k)) (suc (suc k) ∷ rest)
    (answers_within most)

abbrev pub answers_of : List ℕ → List Answer
answers_of bytes = answers_within (length bytes) bytes
