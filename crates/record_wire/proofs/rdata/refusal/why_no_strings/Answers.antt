use Rattle.record_wire.proofs.Words.{◌≤◌, ◌∙◌, arith, eqb-false, length, sym}
use Rattle.record_wire.proofs.RDataRefusals.{cut_string}
use Rattle.record_wire.proofs.rdata.refusal.why_no_strings.Goals as goal

pub returns : goal.returns
returns c =
    let octets = c.args.octets.now in
    let some : 1 ≤ length octets =
    omega (arith, eqb-false (length octets) 0 (sym c.is_empty.ensures ∙ c.if-is_empty.false)) in
    cut_string octets (λ are. c.requires some are)
