-- Each has.
use Rattle.dump_captures.proofs.NumberRuns.{words_fit}
use Rattle.dump_captures.proofs.numbers.all_fit.Goals as goal

pub returns : goal.returns
returns c = words_fit c.args.list.now c.are_words.ensures
