-- The entries as they are computed, which the iterator's model needs.
use Rattle.std.specs.Prelude.{ℕ, zero, suc, nat_le, Bool, true, false, List, [], ◌∷◌, length, take, drop}

abbrev pub after_entry : Bool → ℕ → List ℕ → (List ℕ → List (List ℕ)) → List (List ℕ)
after_entry true w bytes go = take w bytes ∷ go (drop w bytes)
after_entry false w bytes go = []

unfoldable pub entries_ahead : ℕ → ℕ → List ℕ → List (List ℕ)
entries_ahead w zero bytes = []
entries_ahead w (suc n) bytes = after_entry (nat_le w (length bytes)) w bytes (entries_ahead w n)
