-- Numbers that are printed in a loop, after the first.
use Rattle.std.proofs.Common.{◌≡◌, ◌-◌, ◌≤◌, ◌<◌, ◌^◌, [], ◌∷◌, ◌++◌, List, ℕ, codes, decimal, drop, flat_map, get_or}
use Rattle.std.proofs.Common.{length, map, suc, take}
use Rattle.std.specs.Prelude.{slice_index}
use Rattle.packet_fields.proofs.Lists.{commas-some}
use Rattle.packet_fields.specs.Fields.{AllFit, with_commas}

-- the numbers after the first
abbrev pub others : List ℕ → List ℕ
others xs = take (length xs - 1) (drop 1 xs)

pub words-some : (xs : List ℕ) (d : ℕ) → 1 ≤ length xs
    → with_commas (map decimal xs) ≡ decimal (get_or xs 0 d) ++ flat_map (λ next. codes "," ++ decimal next) (others xs)
words-some xs d some = commas-some decimal xs d some

-- numbers of 64 bits fit
pub words_fit : (ns : List ℕ) → ((i : ℕ) → slice_index ns i < 2 ^ 64) → AllFit ns
words_fit [] known = tt
words_fit (n ∷ ns) known = (known 0, words_fit ns (λ i. known (suc i)))
