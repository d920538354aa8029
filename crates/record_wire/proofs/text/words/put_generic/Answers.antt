-- The number of bytes, and their digits where there are any.
use Rattle.record_wire.proofs.Words.{◌∙◌, eqb-true, eqb-false, length, sym}
use Rattle.record_wire.proofs.Puts.{◌then◌, puts_as, puts_last}
use Rattle.record_wire.proofs.RecordTexts.{generic_none, generic_some}
use Rattle.record_wire.proofs.text.words.put_generic.Goals as goal

pub returns-then-is_empty : goal.returns-then-is_empty
returns-then-is_empty g c =
    let octets = c.args.octets.now in
    puts_as _ _ _ _ _ _
    (generic_none octets (eqb-true (length octets) 0 (sym c.is_empty.ensures ∙ c.if-is_empty.true)))
    (puts_last _ _ _ c.in_ok-put_str.ensures.calls c.in_ok-put_number.ensures)

pub returns : goal.returns
returns g c =
    let octets = c.args.octets.now in
    puts_as _ _ _ _ _ _
    (generic_some octets (eqb-false (length octets) 0 (sym c.is_empty.ensures ∙ c.if-is_empty.false)))
    (puts_last _ _ _ (c.in_ok-put_str.ensures.calls then c.in_ok-put_number.ensures.calls then
    c.in_ok-put_str-2.ensures.calls)
    c.put_hex.ensures)
