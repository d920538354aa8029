-- Each turn puts a string after a space.
use Rattle.record_wire.proofs.Words.{◌∷◌, ◌++◌, ap, string_text, string_words}
use Rattle.record_wire.specs.ZoneText.{word}
use Rattle.record_wire.proofs.Puts.{◌then◌}
use Rattle.record_wire.proofs.RecordTexts.{one_text}
use Rattle.record_wire.proofs.text.words.put_behind_spaces.Goals as goal

pub loop-string-preserved : goal.loop-string-preserved
unfolding word
loop-string-preserved g c =
    let (done, is, before) = c.loop-string.invariant in
    let text = string_text c.in-Some.string.now in (
      done ++ 32 ∷ text,
      one_text done (string_words c.loop-string.strings) (32 ∷ text) (string_words c.next.new.self)
          (string_words c.args.strings) is (ap string_words c.in-Some.ensures.steps),
      before then (c.in_ok-put_str.ensures.calls then c.in_ok-put_string.ensures.calls),
    )
