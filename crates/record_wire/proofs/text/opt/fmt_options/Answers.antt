-- Each turn writes an answer.
use Rattle.record_wire.proofs.Words.{◌++◌, IsOk, ap, codes, option_of, options_text, put_two, refl, rules}
use Rattle.wirebase.specs.Answers.{seen}
use Rattle.record_wire.specs.OptText.{answer_text}
use Rattle.record_wire.proofs.RecordTexts.{one_text}
use Rattle.record_wire.proofs.text.opt.fmt_options.Goals as goal

pub loop-answer-preserved : goal.loop-answer-preserved
loop-answer-preserved g c = λ plain.
    let (done, is, before) = c.loop-answer.invariant plain in
    let ok : IsOk c.write.result = search rules in
    let text = codes "; " ++ answer_text (seen option_of c.in-Some.answer) in
    let left = options_text c.loop-answer.options in
    let rest = options_text c.next.new.self in (
      done ++ text,
      one_text done left text rest (options_text c.args.options) is (ap options_text c.in-Some.ensures.steps),
      put_two _ _ _ _ _ _ _ before (c.write.ensures.writes before.plain ok) refl,
    )
