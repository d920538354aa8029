use Rattle.record_wire.proofs.Words.{sym}
use Rattle.record_wire.proofs.FieldParts.{three_strings}
use Rattle.record_wire.proofs.rdata.fields.split_strings.Goals as goal

pub returns-clause-sound : goal.returns-clause-sound
returns-clause-sound c =
    three_strings c.args.octets.now c.in-Some.behind.now c.in-Some-behind_string.behind.now
    c.in-Some-behind_string-2.rest.now (sym c.in-Some.ensures) (sym c.in-Some-behind_string.ensures)
    (sym c.in-Some-behind_string-2.ensures)
