-- Each turn puts three bytes.
use Rattle.record_wire.proofs.Words.{◌/◌, ◌%◌, ◌*◌, ◌+◌, ◌++◌, base64}
use Rattle.record_wire.proofs.FieldTexts.{four, base64_more}
use Rattle.record_wire.proofs.Puts.{◌then◌}
use Rattle.record_wire.proofs.RecordTexts.{one_text}
use Rattle.record_wire.proofs.text.words.put_base64.Goals as goal

pub loop-a-preserved : goal.loop-a-preserved
loop-a-preserved g c =
    let (done, is, before) = c.loop-a.invariant in
    let x = c.in-Some.a in
    let y = c.in-Some.b in
    let z = c.in-Some.c in
    let text = four (x / 4) (x % 4 * 16 + y / 16) (y % 16 * 4 + z / 64) (z % 64) in
    let left = c.loop-a.left.now in
    let rest = c.in-Some.rest.now in (
      done ++ text,
      one_text done (base64 left) text (base64 rest) (base64 c.args.bytes.now) is
          (base64_more x y z left rest c.in-Some.ensures),
      before then c.in_ok-put_digits.ensures.calls,
    )
