-- Where the options in bytes end, as it is computed; no public clause rests on it.
use Rattle.std.specs.Prelude.{◌==◌, ◌≢◌, ◌∷◌, [], List, None, Option, Some, drop, if◌then◌else◌, length, nat_lt}
use Rattle.std.specs.Prelude.{suc, zero, ℕ}
use Rattle.dhcp_wire.specs.Dhcpv4Options.{OptionValue}
use Rattle.dhcp_wire.specs.private.Dhcpv4OptionsAhead.{list_of}

abbrev pub counted : ℕ → ℕ → List ℕ → (List ℕ → Option ℕ) → Option ℕ
counted kind n rest go = if nat_lt (length rest) n then Some kind else go (drop n rest)

abbrev pub after_kind : ℕ → List ℕ → (List ℕ → Option ℕ) → Option ℕ
after_kind kind [] go = Some kind
after_kind kind (n ∷ rest) go = counted kind n rest go

-- in at most a given number of turns; each takes a byte at least
unfoldable pub cut_within : ℕ → List ℕ → Option ℕ
cut_within most [] = None
cut_within zero (kind ∷ rest) = None
cut_within (suc most) (kind ∷ rest) =
    if kind == 255 then None else if kind == 0 then cut_within most rest else after_kind kind rest (cut_within most)

-- the kind of the option that is cut at the end
abbrev pub cut_of : List ℕ → Option ℕ
cut_of bytes = cut_within (length bytes) bytes

-- the options in bytes, and the kind of the option that is cut at their end
pub record Ahead : Type 0 where
  pub options : List OptionValue
  pub cut : Option ℕ

abbrev pub ahead : List OptionValue → Option ℕ → Ahead
ahead options cut = record { options = options; cut = cut }

abbrev pub ahead_of : List ℕ → Ahead
ahead_of bytes = ahead (list_of bytes) (cut_of bytes)

abbrev pub HasNoPadding : List ℕ → Type 0
HasNoPadding bytes = (rest : List ℕ) → bytes ≢ 0 ∷ rest
