-- Lists of what a host keeps for a time alone: entries with a key each.
use Rattle.std.specs.Prelude.{◌≡◌, ◌⊎◌, ◌<◌, ◌||◌, nat_lt, not, ℕ, Bool, true, if◌then◌else◌, List, [], ◌∷◌, length}
use Rattle.std.specs.List.{filter, list_any}

module _ {T : Type 0} where
  -- whether one of the entries is of the key, which a test tells
  abbrev pub has : (T → Bool) → List T → Bool
  has test entries = list_any test entries

  -- an entry in the place of the first that is of the key, or behind all
  abbrev pub put : (T → Bool) → T → List T → List T
  put test entry [] = entry ∷ []
  put test entry (first ∷ rest) = if test first then entry ∷ rest else first ∷ put test entry rest

  -- An entry is kept where one is of its key, and where the list has fewer than its most entries.
  abbrev pub IsKept : ℕ → (T → Bool) → List T → Type 0
  IsKept most test entries = (has test entries ≡ true) ⊎ (length entries < most)

  -- the list with an entry, which is left out where no other is of its key and the list has its most entries
  abbrev pub renewed : ℕ → (T → Bool) → T → List T → List T
  renewed most test entry entries =
      if has test entries || nat_lt (length entries) most then put test entry entries else entries

  -- the list without the entries of a key
  abbrev pub without : (T → Bool) → List T → List T
  without test entries = filter (λ entry. not (test entry)) entries
