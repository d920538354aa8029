-- The kind that is nearest is told.
use Rattle.dump_captures.proofs.Words.{unknown-kind}
use Rattle.dump_captures.proofs.arguments.Reading.read_kinds.Goals as goal

pub returns-in_ok-copy_of-in-Err-clause-step : goal.returns-in_ok-copy_of-in-Err-clause-step
returns-in_ok-copy_of-in-Err-clause-step c =
    unknown-kind c.args.list.now c.in-Err.name.now _ _ _ c.in-Err.ensures.wrong c.in_ok-copy_of-in-Err.ensures.copy
    c.in_ok-near-in-Err.ensures.found
