-- The questions so far are printed.
use Rattle.std.proofs.Common.{take}
use Rattle.std.specs.Option.{option_map}
use Rattle.std.specs.Prelude.{flat_map}
use Rattle.packet_fields.specs.Output.{Gains}
use Rattle.dump_captures.specs.Pairing.{question_text}
use Rattle.dump_captures.proofs.pairing.show_questions.Given as goal

abbrev pub invariant-loop-question : goal.invariant-loop-question
invariant-loop-question g l =
    Gains (g.W.Write.contents l.initial.output) (g.W.Write.contents l.output)
    (flat_map (question_text l.options (option_map (λ name. name.now) l.file)) (take l.question-index l.questions))
