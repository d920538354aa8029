-- A prefix is counted.
use Rattle.std.proofs.Common.{◌∙◌, OnErr, OnOk, subst, sym}
use Rattle.wirebase.specs.Ipv6Address.{octets_of}
use Rattle.packet_stats.specs.Stats.{CountsAll, CountsSome, state_of}
use Rattle.packet_stats.proofs.Options.{prefix_is}
use Rattle.packet_stats.proofs.stats.Stats.count_prefix.Goals as goal

pub returns-then-has_prefix-clause-counts : goal.returns-then-has_prefix-clause-counts
returns-then-has_prefix-clause-counts c =
    let option = c.args.option.now in
    let said =
    prefix_is (octets_of c.args.source) option (octets_of c.v6_of-prefix.result) c.u8_at-len.result
    (sym c.has_prefix.ensures.value ∙ c.if-has_prefix.true) (c.v6_of-prefix.ensures.octets ∙ c.field.ensures.value)
    c.u8_at-len.ensures in
    subst
    (λ l. OnOk c.count_subject.result (CountsAll (state_of c.args.self.now) l (state_of c.count_subject.new.self)))
    said c.count_subject.ensures.counts

pub returns-then-has_prefix-clause-fault : goal.returns-then-has_prefix-clause-fault
returns-then-has_prefix-clause-fault c =
    let option = c.args.option.now in
    let said =
    prefix_is (octets_of c.args.source) option (octets_of c.v6_of-prefix.result) c.u8_at-len.result
    (sym c.has_prefix.ensures.value ∙ c.if-has_prefix.true) (c.v6_of-prefix.ensures.octets ∙ c.field.ensures.value)
    c.u8_at-len.ensures in
    subst
    (λ l. OnErr c.count_subject.result (CountsSome (state_of c.args.self.now) l (state_of c.count_subject.new.self)))
    said c.count_subject.ensures.fault
