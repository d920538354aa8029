-- The words after the command are other ones, or too many.
use Rattle.std.proofs.Common.{sym, ◌∙◌, arith}
use Rattle.dump_lines.proofs.Shaping.{command_of-other, command_of-many}
use Rattle.dump_lines.proofs.command.Command.of.Goals as goal

pub returns-in_default : goal.returns-in_default
returns-in_default c =
    command_of-other (λ argument. argument.now) c.args.word.now c.args.arguments.now
    (omega (arith, c.in-len1.len_at_least, c.in-len1.len_below)) (sym c.is_word.ensures ∙ c.if-is_word.false)

pub returns-in_default-3 : goal.returns-in_default-3
returns-in_default-3 c =
    command_of-many (λ argument. argument.now) c.args.word.now c.args.arguments.now c.in_default.len_at_least
