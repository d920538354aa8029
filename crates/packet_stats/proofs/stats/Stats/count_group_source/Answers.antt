-- The address has the octets of the source.
use Rattle.std.proofs.Common.{OnOk, subst}
use Rattle.packet_stats.specs.Stats.{CountsAll, state_of}
use Rattle.packet_stats.specs.Subject.{octets_in}
use Rattle.packet_stats.proofs.Records.{source_is}
use Rattle.packet_stats.proofs.stats.Stats.count_group_source.Goals as goal

pub returns-clause-counts : goal.returns-clause-counts
returns-clause-counts c =
    let said =
    source_is (octets_in c.args.group) (octets_in c.args.host) c.args.mode c.args.octets.now
    (octets_in c.address_of-address.result) c.address_of-address.ensures in
    subst
    (λ l. OnOk c.count_subject.result (CountsAll (state_of c.args.self.now) l (state_of c.count_subject.new.self)))
    said c.count_subject.ensures.counts
