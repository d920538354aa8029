-- The word has other octets than digits, or too few or too many.
use Rattle.std.proofs.Common.{◌∙◌, sym}
use Rattle.dump_lines.proofs.Spelling.{word_of-none}
use Rattle.dump_lines.proofs.words.read_word.Goals as goal

pub returns-then-not-are_pairs-clause-value : goal.returns-then-not-are_pairs-clause-value
returns-then-not-are_pairs-clause-value c =
    word_of-none c.args.text.now (sym c.is_word.ensures ∙ c.if-is_word.false)
    (sym c.are_pairs.ensures ∙ c.if-not-are_pairs.true)
