-- The answers of an iterator over options as they are computed, for its model. They are those of the tiling.
use Rattle.std.specs.Prelude.{ℕ, zero, suc, Bool, true, false, List, [], ◌∷◌, length, drop, Option, None, Some, Ok, Err}
use Rattle.opt_wire.specs.Ipv6Option.{OptionValue, text_len}
use Rattle.opt_wire.specs.Ipv6OptionAnswers.{Answer}
use Rattle.opt_wire.specs.Ipv6OptionModel.{front_of}

-- the answers, in at most a given number of options; an option takes a byte at least
abbrev pub after_front : Option OptionValue → List ℕ → (List ℕ → List Answer) → List Answer
after_front None bytes go = Err (record {}) ∷ []
after_front (Some v) bytes go = Ok v ∷ go (drop (text_len v) bytes)

unfoldable pub answers_within : ℕ → List ℕ → List Answer
answers_within most [] = []
answers_within zero (t ∷ rest) = []
answers_within (suc most) (t ∷ rest) = after_front (front_of (t ∷ rest)) (t ∷ rest) (answers_within most)

abbrev pub answers_of : List ℕ → List Answer
answers_of bytes = answers_within (length bytes) bytes

-- the answers still to come: none after a refusal
abbrev pub answers_to_come : Bool → List ℕ → List Answer
answers_to_come true bytes = []
answers_to_come false bytes = answers_of bytes
