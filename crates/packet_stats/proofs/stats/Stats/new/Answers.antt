-- No table has a row.
use Rattle.packet_stats.proofs.Bounds.{none_within}
use Rattle.packet_stats.proofs.stats.Stats.new.Goals as goal

pub invariant_of-result-clause-few_questions : goal.invariant_of-result-clause-few_questions
invariant_of-result-clause-few_questions c = none_within 1024 c.new.result c.new.ensures
