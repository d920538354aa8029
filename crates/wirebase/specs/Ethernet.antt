-- Hardware addresses: those of Ethernet, and any by its bytes.
use Rattle.std.specs.Prelude.{ℕ, List, [], ◌∷◌}

-- an Ethernet address, by its six octets
pub record Ethernet : Type 0 where
  pub a : ℕ
  pub b : ℕ
  pub c : ℕ
  pub d : ℕ
  pub e : ℕ
  pub f : ℕ

-- the octets in the order in which they are sent
abbrev pub octets_of : Ethernet → List ℕ
octets_of address = address.a ∷ address.b ∷ address.c ∷ address.d ∷ address.e ∷ address.f ∷ []
