-- The rows are the same, in the order of a page.
use Rattle.std.proofs.Common.{rules}
use Rattle.std.proofs.lemmas.List.Sorted.{IsPermutation-map, answers_always}
use Rattle.std.specs.Ordering.{is_lt}
use Rattle.packet_stats.specs.Row.{row_cmp, row_of}
use Rattle.packet_stats.proofs.Sorting.{rows_are_ordered, sorted_by_content}
use Rattle.packet_stats.proofs.table.Table.sort.Goals as goal

pub returns-clause-sorts : goal.returns-clause-sorts
returns-clause-sorts c = record {
  same = IsPermutation-map row_of _ _ c.sort_unstable_by.ensures.permutation;
  sorted = sorted_by_content row_of (λ a b. is_lt (row_cmp a b)) _
      (c.sort_unstable_by.ensures.sorted _ rows_are_ordered (answers_always _ _ _ (λ f a r g k. search rules)));
  overlooked = search rules;
}
