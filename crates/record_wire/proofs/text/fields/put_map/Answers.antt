-- Each turn puts the types of a byte.
use Rattle.record_wire.proofs.Words.{◌++◌, ◌∙◌, List, ℕ, ap, append-nil, byte_text, map_text, number_at, sym}
use Rattle.record_wire.proofs.FieldTexts.{map_more, map_none}
use Rattle.record_wire.proofs.Puts.{◌then◌, puts_as}
use Rattle.record_wire.proofs.RecordTexts.{one_text}
use Rattle.record_wire.proofs.text.fields.put_map.Goals as goal

pub loop-byte-preserved : goal.loop-byte-preserved
loop-byte-preserved g c =
    let (done, is, before) = c.loop-byte.invariant in
    let number = c.loop-byte.number in
    let text = byte_text number c.in-Some.byte in
    let left = map_text number c.loop-byte.left.now in
    let rest = map_text (number_at number 8) c.in-Some.rest.now in (
      done ++ text,
      one_text done left text rest (map_text c.args.first c.args.map.now) is
          (map_more number c.in-Some.byte c.loop-byte.left.now c.in-Some.rest.now c.in-Some.ensures),
      before then c.in_ok-put_byte.ensures.calls,
    )

pub returns : goal.returns
returns g c =
    let (done, is, before) = c.loop-byte.invariant in
    let none = map_none c.loop-byte.number c.loop-byte.left.now c.in_default.ensures in
    let whole = sym (append-nil done) ∙ (ap (λ (l : List ℕ). done ++ l) (sym none) ∙ is) in
    puts_as _ _ _ _ _ _ whole (record { calls = before })
