-- Why bytes are not the options of a hop-by-hop header, and the printed texts of such a header and of that reason.
use Rattle.std.specs.Prelude.{◌≡◌, ◌≢◌, ℕ, suc, ◌≤◌, List, [], ◌∷◌, ◌++◌, length, flat_map, codes, decimal}
use Rattle.opt_wire.specs.Words.{pieces}
use Rattle.opt_wire.specs.Ipv6Option.{OptionValue}
use Rattle.opt_wire.specs.Ipv6OptionDisplay.{option_display}
use Rattle.opt_wire.specs.Ipv6OptionRefusal as option
use Rattle.opt_wire.specs.Ipv6Hbh.{IsHeader}
use Rattle.opt_wire.specs.declared.ipv6hbh.refusal.Refusal.{Refusal}

-- the bytes are read, where at most a given number of options are kept
abbrev pub IsRead : ℕ → List ℕ → Type 0
IsRead most bytes = (options : List OptionValue) × IsHeader most bytes options

-- the bytes begin with a given number of options one after another, and these bytes follow
pub data AreBehind (bytes : List ℕ) : ℕ → List ℕ → Type 0 where
  none : AreBehind bytes 0 bytes
  one_more : {count : ℕ} {middle rest : List ℕ} → AreBehind bytes count middle → option.IsBehind middle rest
      → AreBehind bytes (suc count) rest

-- why other bytes are refused: there are none; or after a given number of options, at most as many as are kept, the
-- bytes begin with no option, for this reason
abbrev pub Refuses : ℕ → List ℕ → Refusal → Type 0
Refuses most bytes Refusal.Empty = bytes ≡ []
Refuses most bytes (Refusal.Option index why) =
    (rest : List ℕ) × AreBehind bytes index rest × (index ≤ most) × (rest ≢ []) × option.Refuses rest why

abbrev pub refusal_text : Refusal → List ℕ
refusal_text Refusal.Empty = codes "no options"
refusal_text (Refusal.Option index why) =
    pieces (codes "option " ∷ decimal index ∷ codes ": " ∷ option.refusal_text why ∷ [])

-- options after one another, each in parentheses
abbrev pub options_display : List OptionValue → List ℕ
options_display options = flat_map (λ v. codes " (" ++ (option_display v ++ codes ")")) options

-- a header: how many options it has, and each of them
abbrev pub header_display : List OptionValue → List ℕ
header_display options =
    codes "IPv6 Hop-by-Hop Options count=" ++ (decimal (length options) ++ options_display options)
