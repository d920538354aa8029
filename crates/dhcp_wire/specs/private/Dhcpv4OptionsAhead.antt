-- The list of the options in bytes, as it is computed: those that an iterator over them has still to give.
use Rattle.std.specs.Prelude.{ℕ, zero, suc, ◌==◌, nat_lt, List, [], ◌∷◌, length, take, drop, if◌then◌else◌}
use Rattle.dhcp_wire.specs.Dhcpv4Options.{OptionValue, option}

abbrev pub counted : ℕ → ℕ → List ℕ → (List ℕ → List OptionValue) → List OptionValue
counted kind n rest go = if nat_lt (length rest) n then [] else option kind (take n rest) ∷ go (drop n rest)

abbrev pub after_kind : ℕ → List ℕ → (List ℕ → List OptionValue) → List OptionValue
after_kind kind [] go = []
after_kind kind (n ∷ rest) go = counted kind n rest go

-- in at most a given number of turns; each takes a byte at least
unfoldable pub options_within : ℕ → List ℕ → List OptionValue
options_within most [] = []
options_within zero (kind ∷ rest) = []
options_within (suc most) (kind ∷ rest) =
    if kind == 255 then [] else if kind == 0 then options_within most rest
    else after_kind kind rest (options_within most)

abbrev pub list_of : List ℕ → List OptionValue
list_of bytes = options_within (length bytes) bytes
