-- The headers decide, and then the name.
use Rattle.std.proofs.Common.{sym, ◌∙◌}
use Rattle.dump_captures.specs.Dump.{beyond, by_name}
use Rattle.dump_captures.proofs.options.Options.chooses.Goals as goal

pub returns-then-is_in_reach : goal.returns-then-is_in_reach
returns-then-is_in_reach c =
    by_name _ (sym c.is_in_reach.ensures ∙ c.if-is_in_reach.true) c.has_name.ensures

pub returns-else-is_in_reach : goal.returns-else-is_in_reach
returns-else-is_in_reach c =
    rw c.if-is_in_reach.false (beyond (sym c.is_in_reach.ensures ∙ c.if-is_in_reach.false))
