use Rattle.record_wire.proofs.Words.{◌≤◌, arith, length}
use Rattle.record_wire.proofs.FieldParts.{refused_rule, refused_numbers}
use Rattle.record_wire.proofs.rdata.refusal.why_no_front.Goals as goal

pub returns-else-octets-lt-STRINGS : goal.returns-else-octets-lt-STRINGS
returns-else-octets-lt-STRINGS c =
    let fits : 4 ≤ length c.args.octets.now = omega (arith, c.if-octets-lt-STRINGS.false) in
    refused_rule c.args.form c.args.octets.now c.in-Rule.is fits c.requires

pub returns-in-Nothing : goal.returns-in-Nothing
returns-in-Nothing c = refused_numbers c.args.form c.args.octets.now c.in-Nothing.is c.requires
