-- Each turn counts a source.
use Rattle.std.proofs.Common.{◌-◌, ap, rules}
use Rattle.std.specs.Prelude.{flat_map}
use Rattle.packet_stats.specs.Groups.{source_said, sources_said}
use Rattle.packet_stats.specs.Stats.{state_of}
use Rattle.packet_stats.specs.Subject.{octets_in}
use Rattle.packet_stats.proofs.Counting.{on_err}
use Rattle.packet_stats.proofs.Records.{fewer_left, next_source}
use Rattle.packet_stats.proofs.Turns.{one_more, some_said}
use Rattle.packet_stats.proofs.stats.Stats.count_filter.Goals as goal

pub loop-more-preserved : goal.loop-more-preserved
loop-more-preserved c =
    let group = octets_in c.address_of-group.result in
    let host = octets_in c.args.host in
    let said = source_said group host c.mode_of-mode.result in
    let all = sources_said c.args.width group host c.mode_of-mode.result in
    let next =
    next_source c.args.width c.loop-more.more c.loop-more.left.now c.split_at-in-loop-more.result.0.now
    c.split_at-in-loop-more.result.1.now c.requires.width c.loop-more-test.true c.loop-more.invariant.1
    c.split_at-in-loop-more.ensures.front c.split_at-in-loop-more.ensures.back in (
      one_more (state_of c.args.self.now) (state_of c.loop-more.self) (state_of c.count_group_source.new.self)
          (all c.u16_at-more.result c.split_at.result.1.now) (all c.loop-more.more c.loop-more.left.now)
          (said c.split_at-in-loop-more.result.0.now)
          (all (c.loop-more.more - 1) c.split_at-in-loop-more.result.1.now) (ap (flat_map said) next)
          c.loop-more.invariant.0 c.in_ok-count_group_source.ensures.counts,
      fewer_left c.args.width c.loop-more.more c.loop-more.left.now c.split_at-in-loop-more.result.1.now
          c.loop-more-test.true c.loop-more.invariant.1 c.split_at-in-loop-more.ensures.back,
    )

pub returns-in_err-count_group_source-clause-fault : goal.returns-in_err-count_group_source-clause-fault
returns-in_err-count_group_source-clause-fault c =
    let group = octets_in c.address_of-group.result in
    let host = octets_in c.args.host in
    let said = source_said group host c.mode_of-mode.result in
    let all = sources_said c.args.width group host c.mode_of-mode.result in
    let next =
    next_source c.args.width c.loop-more.more c.loop-more.left.now c.split_at-in-loop-more.result.0.now
    c.split_at-in-loop-more.result.1.now c.requires.width c.loop-more-test.true c.loop-more.invariant.1
    c.split_at-in-loop-more.ensures.front c.split_at-in-loop-more.ensures.back in
    let some =
    some_said (state_of c.args.self.now) (state_of c.loop-more.self) (state_of c.count_group_source.new.self)
    (all c.u16_at-more.result c.split_at.result.1.now) (all c.loop-more.more c.loop-more.left.now)
    (said c.split_at-in-loop-more.result.0.now)
    (all (c.loop-more.more - 1) c.split_at-in-loop-more.result.1.now) (ap (flat_map said) next)
    c.loop-more.invariant.0 c.in_err-count_group_source.ensures.fault in
    on_err c.from_residual.result (search (some, rules))
