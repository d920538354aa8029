-- The line of a record that is no OPT record.
use Rattle.record_wire.proofs.Words.{◌≡◌, ◌∙◌, None, ap}
use Rattle.wirebase.proofs.Sinks.{displayed}
use Rattle.record_wire.specs.RecordText.{record_text_of, edns_in, opt_or_line}
use Rattle.record_wire.proofs.Lines.{plain_front}
use Rattle.record_wire.proofs.Puts.{puts_as}
use Rattle.record_wire.proofs.text.RecordTextDisplay.fmt.Goals as goal

pub returns-clause-writes : goal.returns-clause-writes
returns-clause-writes g c =
    let r = record_text_of c.args.self.now in
    let none : None ≡ edns_in r = rw c.in_default.is at c.edns.ensures in
    displayed g.W.Write.write_str_gives _ _ _ _
    (puts_as _ _ _ _ _ _ (plain_front r _ c.of-owner.ensures ∙ ap (λ edns. opt_or_line edns r) none)
    c.put_own.ensures)
