-- Each kind of subjects has its table.
use Rattle.std.proofs.Common.{ap, refl}
use Rattle.packet_stats.specs.Stats.{state_of}
use Rattle.packet_stats.specs.Subject.{subject_of}
use Rattle.packet_stats.specs.private.Mentions.{mention_of}
use Rattle.packet_stats.proofs.Counting.{in_table}
use Rattle.packet_stats.proofs.stats.Stats.mention.Goals as goal

pub returns-in-Question-clause-counts : goal.returns-in-Question-clause-counts
returns-in-Question-clause-counts c =
    in_table c.count.result (state_of c.args.self.now) _ (mention_of c.args.mention) _ _
    (ap subject_of c.in-Question.is) (λ counted. (counted, refl)) c.count.ensures.counts

pub returns-in-Rcode-clause-counts : goal.returns-in-Rcode-clause-counts
returns-in-Rcode-clause-counts c =
    in_table c.count-in-Rcode.result (state_of c.args.self.now) _ (mention_of c.args.mention) _ _
    (ap subject_of c.in-Rcode.is) (λ counted. (counted, refl)) c.count-in-Rcode.ensures.counts

pub returns-in-Server-clause-counts : goal.returns-in-Server-clause-counts
returns-in-Server-clause-counts c =
    in_table c.count-in-Server.result (state_of c.args.self.now) _ (mention_of c.args.mention) _ _
    (ap subject_of c.in-Server.is) (λ counted. (counted, refl)) c.count-in-Server.ensures.counts

pub returns-in-Client-clause-counts : goal.returns-in-Client-clause-counts
returns-in-Client-clause-counts c =
    in_table c.count-in-Client.result (state_of c.args.self.now) _ (mention_of c.args.mention) _ _
    (ap subject_of c.in-Client.is) (λ counted. (counted, refl)) c.count-in-Client.ensures.counts

pub returns-in-Lease-clause-counts : goal.returns-in-Lease-clause-counts
returns-in-Lease-clause-counts c =
    in_table c.count-in-Lease.result (state_of c.args.self.now) _ (mention_of c.args.mention) _ _
    (ap subject_of c.in-Lease.is) (λ counted. (counted, refl)) c.count-in-Lease.ensures.counts

pub returns-in-Member-clause-counts : goal.returns-in-Member-clause-counts
returns-in-Member-clause-counts c =
    in_table c.count-in-Member.result (state_of c.args.self.now) _ (mention_of c.args.mention) _ _
    (ap subject_of c.in-Member.is) (λ counted. (counted, refl)) c.count-in-Member.ensures.counts

pub returns-in-Source-clause-counts : goal.returns-in-Source-clause-counts
returns-in-Source-clause-counts c =
    in_table c.count-in-Source.result (state_of c.args.self.now) _ (mention_of c.args.mention) _ _
    (ap subject_of c.in-Source.is) (λ counted. (counted, refl)) c.count-in-Source.ensures.counts

pub returns-in-Neighbor-clause-counts : goal.returns-in-Neighbor-clause-counts
returns-in-Neighbor-clause-counts c =
    in_table c.count-in-Neighbor.result (state_of c.args.self.now) _ (mention_of c.args.mention) _ _
    (ap subject_of c.in-Neighbor.is) (λ counted. (counted, refl)) c.count-in-Neighbor.ensures.counts

pub returns-in-Router-clause-counts : goal.returns-in-Router-clause-counts
returns-in-Router-clause-counts c =
    in_table c.count-in-Router.result (state_of c.args.self.now) _ (mention_of c.args.mention) _ _
    (ap subject_of c.in-Router.is) (λ counted. (counted, refl)) c.count-in-Router.ensures.counts

pub returns-in-Prefix-clause-counts : goal.returns-in-Prefix-clause-counts
returns-in-Prefix-clause-counts c =
    in_table c.count-in-Prefix.result (state_of c.args.self.now) _ (mention_of c.args.mention) _ _
    (ap subject_of c.in-Prefix.is) (λ counted. (counted, refl)) c.count-in-Prefix.ensures.counts
