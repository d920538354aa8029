-- The known word that is nearest to one that is not known.
use Rattle.std.specs.Prelude.{ℕ, ◌+◌, ◌/◌, nat_eq, nat_lt, min, max, if◌then◌else◌, List, [], ◌∷◌, length, Option}
use Rattle.std.specs.Prelude.{None, Some}
use Rattle.std.specs.Str.{chars}
use Rattle.strsim.specs.Edits.{levenshtein_row}

-- the least number of characters that are put in, left out or replaced on the way from one word to another
abbrev pub distance : List ℕ → List ℕ → ℕ
distance word other = levenshtein_row nat_eq (chars word) (chars other) (length (chars other))

-- The most of them for a word of this many bytes that may be another one: two, or a third of a long word, but no more
-- than half of a short one.
abbrev pub most_changes : ℕ → ℕ
most_changes len = min (len / 2) (max 2 (len / 3))

-- of words at less than this distance the first of the nearest, and another word where there is none
abbrev pub nearest_below : ℕ → Option (List ℕ) → List ℕ → List (List ℕ) → Option (List ℕ)
nearest_below bound found word [] = found
nearest_below bound found word (other ∷ others) =
    if nat_lt (distance word other) bound then nearest_below (distance word other) (Some other) word others
    else nearest_below bound found word others

-- the first of the nearest known words, where it is near enough
unfoldable pub nearest : List ℕ → List (List ℕ) → Option (List ℕ)
nearest word known = nearest_below (most_changes (length word) + 1) None word known
