-- What a setter of a view does; `inner` gives the buffer of a view.
use Rattle.std.specs.Prelude.{◌≡◌, List, ℕ, length}
use Rattle.wirebase.specs.Bytes.{Field, Writes}

-- a field of the view is w, and all its other octets are unchanged
abbrev pub Sets : {V T : Type 0} → (V → T) → (T → List ℕ) → (T → List ℕ → T) → V → V → Field → List ℕ → Type 0
Sets inner bytes put old new f w = Writes bytes put (inner old) (inner new) f w

-- as many octets as there were
abbrev pub KeepsLen : {V T : Type 0} → (V → T) → (T → List ℕ) → V → V → Type 0
KeepsLen inner bytes old new = length (bytes (inner new)) ≡ length (bytes (inner old))
