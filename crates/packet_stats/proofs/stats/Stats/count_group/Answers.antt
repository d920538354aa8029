-- The address has the octets of the group.
use Rattle.std.proofs.Common.{OnErr, OnOk, subst}
use Rattle.packet_stats.specs.Stats.{CountsAll, CountsSome, state_of}
use Rattle.packet_stats.specs.Subject.{octets_in}
use Rattle.packet_stats.proofs.Records.{group_is}
use Rattle.packet_stats.proofs.stats.Stats.count_group.Goals as goal

pub returns-clause-counts : goal.returns-clause-counts
returns-clause-counts c =
    let said =
    group_is c.args.group.now (octets_in c.args.host) (octets_in c.address_of.result) c.address_of.ensures in
    subst
    (λ l. OnOk c.count_subject.result (CountsAll (state_of c.args.self.now) l (state_of c.count_subject.new.self)))
    said c.count_subject.ensures.counts

pub returns-clause-fault : goal.returns-clause-fault
returns-clause-fault c =
    let said =
    group_is c.args.group.now (octets_in c.args.host) (octets_in c.address_of.result) c.address_of.ensures in
    subst
    (λ l. OnErr c.count_subject.result (CountsSome (state_of c.args.self.now) l (state_of c.count_subject.new.self)))
    said c.count_subject.ensures.fault
