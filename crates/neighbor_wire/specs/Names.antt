-- The domain names of a search list in turn (RFC 8106 section 5.2), each as labels behind their lengths and an empty
-- one at its end (RFC 1035 section 3.1).
use Rattle.std.specs.Prelude.{◌≡◌, ℕ, ◌<◌, ◌≤◌, List, [], ◌∷◌, ◌++◌, length, Option, None, Some, Result, Ok}
use Rattle.std.specs.Prelude.{Err}
use Rattle.std.specs.Borrow.{Bor}
use Rattle.neighbor_wire.specs.declared.names.NameRefusal.{NameRefusal}
use Rattle.neighbor_wire.specs.declared.names.Names.{Names}

abbrev pub octets_in : Names → List ℕ
octets_in names = names.octets.now

-- a label has 1 to 63 bytes
abbrev pub IsLabelLen : ℕ → Type 0
IsLabelLen n = (1 ≤ n) × (n ≤ 63)

-- a name: labels, and an empty one
pub data IsName : List ℕ → Type 0 where
  root : IsName (0 ∷ [])
  label : (n : ℕ) (octets rest : List ℕ) → IsLabelLen n → length octets ≡ n → IsName rest
      → IsName (n ∷ (octets ++ rest))

-- Why bytes don't begin with a name: behind whole labels they end, or a label is longer than they are, or a length is
-- more than 63.
pub data Breaks : List ℕ → NameRefusal → Type 0 where
  ended : Breaks [] NameRefusal.Cut
  cut : (n : ℕ) (rest : List ℕ) → IsLabelLen n → length rest < n → Breaks (n ∷ rest) NameRefusal.Cut
  overlong : (n : ℕ) (rest : List ℕ) → 63 < n → Breaks (n ∷ rest) (NameRefusal.Label n)
  behind : (n : ℕ) (octets rest : List ℕ) (why : NameRefusal) → IsLabelLen n → length octets ≡ n → Breaks rest why
      → Breaks (n ∷ (octets ++ rest)) why

-- an answer: a name, or why none follows
abbrev pub Answer : Type 0
Answer = Result (List ℕ) NameRefusal

-- no name follows: the bytes end, or there is a zero, which is padding
abbrev pub Stops : List ℕ → Type 0
Stops [] = Unit {0}
Stops (n ∷ rest) = n ≡ 0

-- Names one after another up to the end or to the padding, or up to a place where no name follows.
pub data AreNames : List ℕ → List Answer → Type 0 where
  stops : {bytes : List ℕ} → Stops bytes → AreNames bytes []
  goes_on : {bytes : List ℕ} {answers : List Answer} (name rest : List ℕ) → (Stops bytes → ⊥) → IsName name
      → AreNames rest answers → bytes ≡ name ++ rest → AreNames bytes (Ok name ∷ answers)
  breaks : {bytes : List ℕ} (why : NameRefusal) → (Stops bytes → ⊥) → Breaks bytes why → AreNames bytes (Err why ∷ [])

-- a call of `next` gives the first answer and takes it off; where none is left it gives None, and none is left
-- afterwards
abbrev pub GivesName : List Answer → Option (Result (Bor (List ℕ)) NameRefusal) → List Answer → Type 0
GivesName old None new = (old ≡ []) × (new ≡ [])
GivesName old (Some (Ok name)) new = old ≡ Ok name.now ∷ new
GivesName old (Some (Err why)) new = old ≡ Err why ∷ new
