use Rattle.std.proofs.Common.{refl}
use Rattle.control_wire.specs.MldRecordTypeType.TheVariants.{ChangeToExclude, ChangeToInclude}
use Rattle.group_wire.specs.Family.{width}
use Rattle.examples.specs.Membership.{changes, state_of}
use Rattle.examples.proofs.Memberships.{full_if_refused}
use Rattle.examples.proofs.membership.report_change.Goals as goal

pub returns-in-Include-Exclude-clause-full : goal.returns-in-Include-Exclude-clause-full
returns-in-Include-Exclude-clause-full g c =
    full_if_refused g.A.Address.bytes (width g.A.Address.family) c.args.group ChangeToExclude c.args.new.now.sources.now
    (changes g.A.PartialEq.eq (state_of c.args.old.now) (state_of c.args.new.now)) c.args.records.now c.push.new.self
    c.push.result (rw (c.in-Include-Exclude.is-0, c.in-Include-Exclude.is-1) refl) c.push.ensures.accepts
    c.push.ensures.refused

pub returns-in-Exclude-Include-clause-full : goal.returns-in-Exclude-Include-clause-full
returns-in-Exclude-Include-clause-full g c =
    let push = c.push-in-Exclude-Include in
    full_if_refused g.A.Address.bytes (width g.A.Address.family) c.args.group ChangeToInclude c.args.new.now.sources.now
    (changes g.A.PartialEq.eq (state_of c.args.old.now) (state_of c.args.new.now)) c.args.records.now push.new.self
    push.result (rw (c.in-Exclude-Include.is-0, c.in-Exclude-Include.is-1) refl) push.ensures.accepts
    push.ensures.refused
