-- The neighbor is counted whose link-layer address is found.
use Rattle.std.proofs.Common.{OnErr, OnOk, subst}
use Rattle.std.specs.Prelude.{find}
use Rattle.wirebase.specs.Ipv6Address.{octets_of}
use Rattle.packet_stats.specs.Neighbors.{is_of, options_in}
use Rattle.packet_stats.specs.Stats.{CountsAll, CountsSome, state_of}
use Rattle.packet_stats.proofs.Options.{link_is}
use Rattle.packet_stats.proofs.stats.Stats.count_neighbor.Goals as goal

pub returns-in-Some-clause-counts : goal.returns-in-Some-clause-counts
returns-in-Some-clause-counts c =
    let said =
    link_is (octets_of c.args.address) c.link_of.result c.in-Some.option.now
    (find (is_of c.args.type_ 1) (options_in c.args.options.now)) c.in-Some.ensures.value c.link_of.ensures in
    subst
    (λ l. OnOk c.count_subject.result (CountsAll (state_of c.args.self.now) l (state_of c.count_subject.new.self)))
    said c.count_subject.ensures.counts

pub returns-in-Some-clause-fault : goal.returns-in-Some-clause-fault
returns-in-Some-clause-fault c =
    let said =
    link_is (octets_of c.args.address) c.link_of.result c.in-Some.option.now
    (find (is_of c.args.type_ 1) (options_in c.args.options.now)) c.in-Some.ensures.value c.link_of.ensures in
    subst
    (λ l. OnErr c.count_subject.result (CountsSome (state_of c.args.self.now) l (state_of c.count_subject.new.self)))
    said c.count_subject.ensures.fault
