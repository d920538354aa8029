-- Items at the start of octets, one after another, as they are computed: the models of iterators.
use Rattle.std.specs.Prelude.{◌≡◌, [], ◌∷◌, List, None, Option, Some, ℕ, length, suc, zero}
use Rattle.std.specs.Borrow.{Bor}

abbrev pub then_more : {V : Type 0} → Option (V × List ℕ) → (List ℕ → List V) → List V
then_more None go = []
then_more (Some (v, rest)) go = v ∷ go rest

-- at most this many items, where `first` gives the item at the start of octets and the rest after it
unfoldable pub ahead_up_to : {V : Type 0} → (List ℕ → Option (V × List ℕ)) → ℕ → List ℕ → List V
ahead_up_to first zero octets = []
ahead_up_to first (suc most) octets = then_more (first octets) (ahead_up_to first most)

-- each item takes at least one octet
abbrev pub ahead : {V : Type 0} → (List ℕ → Option (V × List ℕ)) → List ℕ → List V
ahead first octets = ahead_up_to first (length octets) octets

-- a call of `next` returns the first item and removes it; where none is left it returns None, and none is left after it
abbrev pub GivesBytes : List (List ℕ) → Option (Bor (List ℕ)) → List (List ℕ) → Type 0
GivesBytes old None new = (old ≡ []) × (new ≡ [])
GivesBytes old (Some bytes) new = old ≡ bytes.now ∷ new
