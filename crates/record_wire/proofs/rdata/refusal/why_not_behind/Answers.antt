use Rattle.record_wire.proofs.Words.{◌≤◌, List, ℕ, arith, length, subst, take_rest}
use Rattle.record_wire.specs.RDataRefusal.{RefusesName}
use Rattle.record_wire.proofs.RDataRefusals.{behind_refused}
use Rattle.record_wire.proofs.rdata.refusal.why_not_behind.Goals as goal

pub returns : goal.returns
returns c =
    let octets = c.args.octets.now in
    let fits : c.args.len ≤ length octets = omega (arith, c.if-octets-len.false) in
    behind_refused c.args.len octets c.why_no_name.result fits
    (subst (λ (rest : List ℕ). RefusesName rest c.why_no_name.result) (take_rest octets c.args.len)
    c.why_no_name.ensures)
