-- Where a question is.
use Rattle.std.specs.Prelude.{◌≡◌, ◌∷◌, ◌++◌, List, length, ℕ}
use Rattle.packet_pairs.specs.Key.{KeyValue}
use Rattle.packet_pairs.specs.Pairs.{AskedValue, IsUnknown}

-- the first with this key is at this place
pub record IsFoundAt (key : KeyValue) (qs : List AskedValue) (place : ℕ) : Type 0 where
  pub before : List AskedValue
  pub q : AskedValue
  pub behind : List AskedValue
  pub parts : qs ≡ before ++ (q ∷ behind)
  pub place_is : place ≡ length before
  pub unknown : IsUnknown key before
  pub same : q.key ≡ key
