-- The answers of a name walk as they are computed: the model of the iterator. `DnsNameWalk` states what they are.
use Rattle.std.specs.Prelude.{List, ℕ}

-- what a text begins with
pub data NamePart : Type 0 where
  whole : List ℕ → List ℕ → NamePart
  pointer : ℕ → NamePart
  stop : NamePart
  torn : NamePart
