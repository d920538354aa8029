use Rattle.std.proofs.Common.{refl}
use Rattle.control_wire.specs.MldRecordTypeType.TheVariants.{ModeIsExclude}
use Rattle.group_wire.specs.Family.{width}
use Rattle.examples.specs.Membership.{current, state_of}
use Rattle.examples.proofs.Memberships.{full_if_refused}
use Rattle.examples.proofs.membership.report_state.Goals as goal

pub returns-in-Exclude-clause-full : goal.returns-in-Exclude-clause-full
returns-in-Exclude-clause-full g c =
    full_if_refused g.A.Address.bytes (width g.A.Address.family) c.args.group ModeIsExclude c.args.state.now.sources.now
    (current (state_of c.args.state.now)) c.args.records.now c.push.new.self c.push.result (rw c.in-Exclude.is refl)
    c.push.ensures.accepts c.push.ensures.refused
