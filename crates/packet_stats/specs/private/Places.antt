-- Where a row is.
use Rattle.std.specs.Prelude.{◌≡◌, ◌∷◌, ◌++◌, List, length, ℕ}
use Rattle.packet_stats.specs.Row.{RowValue}
use Rattle.packet_stats.specs.Subject.{SubjectValue}
use Rattle.packet_stats.specs.Table.{IsUnknown}

-- the first of this subject is at this place
pub record IsFoundAt (subject : SubjectValue) (rs : List RowValue) (place : ℕ) : Type 0 where
  pub before : List RowValue
  pub r : RowValue
  pub behind : List RowValue
  pub parts : rs ≡ before ++ (r ∷ behind)
  pub place_is : place ≡ length before
  pub unknown : IsUnknown subject before
  pub same : r.subject ≡ subject
