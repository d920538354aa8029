-- Texts that are printed.
use Rattle.std.specs.Prelude.{ℕ, Bool, if◌then◌else◌, List, [], ◌∷◌, ◌++◌, codes}

-- a text by its pieces, one after another
abbrev pub pieces : List (List ℕ) → List ℕ
pieces [] = []
pieces (piece ∷ []) = piece
pieces (piece ∷ next ∷ more) = piece ++ pieces (next ∷ more)

-- a truth value
abbrev pub truth_text : Bool → List ℕ
truth_text is = if is then codes "true" else codes "false"

-- The printed text of a view, by its parser's own relation: the text of the value that its octets are read as, or the
-- text for octets that are refused.
pub record Shows {V : Type 0} (Reads : V → Type 0) (text : V → List ℕ) (refused : List ℕ)
    (Prints : List ℕ → Type 0) : Type 0 where
  pub reads : (v : V) → Reads v → Prints (text v)
  pub refuses : ((v : V) → Reads v → ⊥) → Prints refused
