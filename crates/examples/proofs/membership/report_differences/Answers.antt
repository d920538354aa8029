use Rattle.std.proofs.lemmas.Result.{on_err_weaker}
use Rattle.control_wire.specs.MldRecordTypeType.TheVariants.{AllowNewSources, BlockOldSources}
use Rattle.group_wire.specs.Family.{width}
use Rattle.examples.specs.Membership.{said_of_some, without}
use Rattle.examples.proofs.Memberships.{full_later}
use Rattle.examples.proofs.membership.report_differences.Goals as goal

pub returns-clause-full : goal.returns-clause-full
returns-clause-full g c =
    let allowed = c.args.allowed.now in
    let blocked = c.args.blocked.now in
    let first = said_of_some AllowNewSources (without g.A.PartialEq.eq allowed blocked) in
    let later = said_of_some BlockOldSources (without g.A.PartialEq.eq blocked allowed) in
    let added = rw c.gather_without-count.ensures.gathered at c.in_ok-push_some.ensures.added in
    let full = rw c.gather_without-count-2.ensures.gathered at c.push_some-2.ensures.full in
    on_err_weaker c.push_some-2.result
    (λ more. full_later g.A.Address.bytes (width g.A.Address.family) c.args.group first later c.args.records.now
    c.push_some.new.records c.push_some-2.new.records added more) full
