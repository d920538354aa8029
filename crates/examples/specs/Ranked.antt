-- The best of several, by their ranks.
use Rattle.std.specs.Prelude.{ℕ, nat_lt, if◌then◌else◌, List, [], ◌∷◌, Option, None, Some}

module _ {T : Type 0} where
  -- where there is none, the rank is 0
  abbrev pub rank_of : (T → ℕ) → Option T → ℕ
  rank_of rank None = 0
  rank_of rank (Some entry) = rank entry

  -- the one with the higher rank, or else the first
  abbrev pub better_of : (T → ℕ) → Option T → T → Option T
  better_of rank first second = if nat_lt (rank_of rank first) (rank second) then Some second else first

  abbrev pub best_behind : (T → ℕ) → Option T → List T → Option T
  best_behind rank best [] = best
  best_behind rank best (entry ∷ entries) = best_behind rank (better_of rank best entry) entries

  -- the first of those with the highest rank; none where that is 0
  abbrev pub best_of : (T → ℕ) → List T → Option T
  best_of rank entries = best_behind rank None entries
