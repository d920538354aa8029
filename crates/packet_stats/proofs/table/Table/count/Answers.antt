-- The row that is found counts one message more.
use Rattle.std.proofs.Common.{arith}
use Rattle.std.proofs.Math.ListN.{length-set}
use Rattle.packet_stats.specs.Subject.{subject_of}
use Rattle.packet_stats.specs.private.Mentions.{mention_of}
use Rattle.packet_stats.proofs.Bounds.{stays_within}
use Rattle.packet_stats.proofs.Places.{counts_again, stays}
use Rattle.packet_stats.proofs.Sums.{same_sums}
use Rattle.packet_stats.proofs.table.Table.count.Goals as goal

pub returns-in-Some-clause-counts : goal.returns-in-Some-clause-counts
returns-in-Some-clause-counts c =
    counts_again c.args.most c.args.self.now.overlooked (mention_of c.args.mention) c.args.self.now.rows.items
    c.in-Some.place c.index_mut.result.now c.count_one.new.self c.count_one.result c.in-Some.ensures.some
    c.index_mut.ensures.value c.count_one.ensures.counts

pub returns-in-Some-clause-fault : goal.returns-in-Some-clause-fault
returns-in-Some-clause-fault c =
    stays c.args.self.now.overlooked (subject_of c.args.mention.subject) c.args.self.now.rows.items c.in-Some.place
    c.index_mut.result.now c.count_one.new.self c.count_one.result c.in-Some.ensures.some c.index_mut.ensures.value
    c.count_one.ensures.fault

pub returns-in-Some-clause-few : goal.returns-in-Some-clause-few
returns-in-Some-clause-few c few =
    omega (arith, few, length-set c.args.self.now.rows.items c.in-Some.place c.count_one.new.self)

pub returns-in-None-clause-few : goal.returns-in-None-clause-few
returns-in-None-clause-few c =
    stays_within c.begin.result c.args.most c.args.self.now c.begin.new.self (mention_of c.args.mention)
    c.begin.ensures.counts c.begin.ensures.fault

pub invariant_of-self : goal.invariant_of-self
invariant_of-self c =
    let all = c.args.self.now in
    record {
      summed =
          same_sums c.count_one.result c.args.mention.after all.rows.items all.sums.items c.in-Some.place
          c.index_mut.result.now c.count_one.new.self all.summed c.index_mut.ensures.value c.count_one.ensures.counts
          c.count_one.ensures.fault;
    }
