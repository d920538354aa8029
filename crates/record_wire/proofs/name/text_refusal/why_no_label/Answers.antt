use Rattle.record_wire.proofs.Words.{sym}
use Rattle.record_wire.proofs.TextRefusals.{long_label}
use Rattle.record_wire.proofs.name.text_refusal.why_no_label.Goals as goal

pub returns-in-Some : goal.returns-in-Some
returns-in-Some c =
    let byte = c.in-Some.field-0.0 in
    let rest = c.in-Some.field-0.1.now in
    long_label c.args.text.now byte rest (sym c.in-Some.ensures) c.requires
