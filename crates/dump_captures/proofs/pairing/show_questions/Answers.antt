-- Each turn prints one question more.
use Rattle.std.proofs.Common.{arith}
use Rattle.std.proofs.lemmas.List.{take_all}
use Rattle.std.specs.Option.{option_map}
use Rattle.packet_fields.proofs.Printing.{◌then◌, gains_none, one_more}
use Rattle.dump_captures.specs.Pairing.{question_text}
use Rattle.dump_captures.proofs.pairing.show_questions.Goals as goal

pub loop-question-init : goal.loop-question-init
loop-question-init g c = gains_none _

pub loop-question-preserved : goal.loop-question-preserved
loop-question-preserved g c =
    rw (
      one_more (question_text c.args.options.now (option_map (λ name. name.now) c.args.file)) c.args.questions.now
          c.loop-question.question-index c.question-item.result c.loop-question-test.true,
      ← c.question-item.is,
    ) (c.loop-question.invariant then c.in_ok-show_question.ensures)

pub returns : goal.returns
returns g c =
    rw (take_all c.loop-question.question-index c.args.questions.now (omega (arith, c.loop-question-test.false))) at
    c.loop-question.invariant
