-- A subject is counted, or nothing changes.
use Rattle.packet_stats.specs.Row.{said_of}
use Rattle.packet_stats.specs.Stats.{state_of}
use Rattle.packet_stats.specs.Subject.{subject_of}
use Rattle.packet_stats.proofs.Counting.{one_broken, one_counted}
use Rattle.packet_stats.proofs.stats.Stats.count_subject.Goals as goal

pub returns-clause-counts : goal.returns-clause-counts
returns-clause-counts c =
    one_counted c.mention.result (state_of c.args.self.now) (state_of c.mention.new.self)
    (said_of (subject_of c.args.subject)) c.mention.ensures.counts

pub returns-clause-fault : goal.returns-clause-fault
returns-clause-fault c =
    one_broken c.mention.result (state_of c.args.self.now) (state_of c.mention.new.self)
    (said_of (subject_of c.args.subject)) c.mention.ensures.fault
