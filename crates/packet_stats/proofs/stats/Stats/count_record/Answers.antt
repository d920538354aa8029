-- The host is counted in the group, and then its sources.
use Rattle.std.proofs.Common.{◌∙◌, OnErr, OnOk, subst, sym}
use Rattle.packet_stats.specs.Groups.{filter_said, group_said}
use Rattle.packet_stats.specs.Stats.{CountsAll, CountsSome, state_of}
use Rattle.packet_stats.specs.Subject.{octets_in}
use Rattle.packet_stats.proofs.Counting.{then_broken, then_counted}
use Rattle.packet_stats.proofs.Records.{member_is}
use Rattle.packet_stats.proofs.stats.Stats.count_record.Goals as goal

pub returns-then-is_member-clause-counts : goal.returns-then-is_member-clause-counts
returns-then-is_member-clause-counts c =
    let host = octets_in c.args.host in
    let said =
    member_is c.args.width host c.args.«record».now c.range-group.result.now
    (sym c.is_member.ensures.value ∙ c.if-is_member.true) c.range-group.ensures.value in
    subst
    (λ l. OnOk c.count_filter.result (CountsAll (state_of c.args.self.now) l (state_of c.count_filter.new.self))) said
    (then_counted c.count_filter.result (state_of c.args.self.now) (state_of c.count_group.new.self)
    (state_of c.count_filter.new.self) (group_said c.range-group.result.now host)
    (filter_said c.args.width host c.args.«record».now) c.in_ok-count_group.ensures.counts
    c.count_filter.ensures.counts)

pub returns-then-is_member-clause-fault : goal.returns-then-is_member-clause-fault
returns-then-is_member-clause-fault c =
    let host = octets_in c.args.host in
    let said =
    member_is c.args.width host c.args.«record».now c.range-group.result.now
    (sym c.is_member.ensures.value ∙ c.if-is_member.true) c.range-group.ensures.value in
    subst
    (λ l. OnErr c.count_filter.result (CountsSome (state_of c.args.self.now) l (state_of c.count_filter.new.self)))
    said
    (then_broken c.count_filter.result (state_of c.args.self.now) (state_of c.count_group.new.self)
    (state_of c.count_filter.new.self) (group_said c.range-group.result.now host)
    (filter_said c.args.width host c.args.«record».now) c.in_ok-count_group.ensures.counts
    c.count_filter.ensures.fault)
