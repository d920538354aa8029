use Rattle.std.proofs.Common.{◌∙◌, length, arith, sym}
use Rattle.std.proofs.lemmas.Bool.{eqb-false}
use Rattle.group_wire.specs.Family.{width}
use Rattle.examples.specs.Membership.{said_of_some}
use Rattle.examples.proofs.Memberships.{full_if_refused, some_are_said}
use Rattle.examples.proofs.membership.push_some.Goals as goal

pub returns-clause-full : goal.returns-clause-full
returns-clause-full g c =
    let sources = c.args.sources.now in
    let some = eqb-false (length sources) 0 (sym c.is_empty.ensures ∙ c.if-is_empty.false) in
    full_if_refused g.A.Address.bytes (width g.A.Address.family) c.args.group c.args.record_type sources
    (said_of_some c.args.record_type sources) c.args.records.now c.push.new.self c.push.result
    (some_are_said c.args.record_type sources (omega (arith, some))) c.push.ensures.accepts c.push.ensures.refused
