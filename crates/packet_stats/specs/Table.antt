-- Tables of rows.
use Rattle.std.specs.Prelude.{◌≡◌, ◌≢◌, ◌<◌, ◌≤◌, [], ◌∷◌, ◌++◌, List, length, map, ℕ}
use Rattle.std.specs.List.Sorted.{IsPermutation, IsSorted}
use Rattle.packet_stats.specs.Row.{MentionValue, RowValue, counted, first_row, one_more, row_cmp, row_of}
use Rattle.packet_stats.specs.Subject.{SubjectValue}
use Rattle.packet_stats.specs.declared.table.Table.{Table}

-- the rows, and how many messages speak of subjects for which there was no row
pub record TableValue : Type 0 where
  pub rows : List RowValue
  pub overlooked : ℕ

abbrev pub table_of : Table → TableValue
table_of t = record { rows = map row_of t.rows.items; overlooked = t.overlooked }

-- none of them is of this subject
abbrev pub IsUnknown : SubjectValue → List RowValue → Type 0
IsUnknown subject [] = Unit {0}
IsUnknown subject (r ∷ rs) = (r.subject ≢ subject) × IsUnknown subject rs

-- A message is counted in the row of its subject, or in a new one behind the others; where these are as many as the
-- table may have, it is overlooked.
pub data Counts (most : ℕ) (old : TableValue) (m : MentionValue) (new : TableValue) : Type 0 where
  again : (before behind : List RowValue) (r : RowValue) → old.rows ≡ before ++ (r ∷ behind)
      → IsUnknown m.subject before → r.subject ≡ m.subject
      → new ≡ record old { rows = before ++ (counted m.after r ∷ behind) } → Counts most old m new
  first : IsUnknown m.subject old.rows → length old.rows < most
      → new ≡ record old { rows = old.rows ++ (first_row m ∷ []) } → Counts most old m new
  overlooks : IsUnknown m.subject old.rows → most ≤ length old.rows
      → new ≡ record old { overlooked = one_more old.overlooked } → Counts most old m new

-- the same rows in the order of a page
pub record Sorts (old new : TableValue) : Type 0 where
  pub same : IsPermutation old.rows new.rows
  pub sorted : IsSorted row_cmp new.rows
  pub overlooked : new.overlooked ≡ old.overlooked
