-- Each turn counts what a record says.
use Rattle.std.proofs.Common.{◌∙◌, ◌-◌, ap, arith, sym}
use Rattle.std.proofs.lemmas.Bool.{eqb-true}
use Rattle.std.specs.Prelude.{flat_map}
use Rattle.packet_fields.proofs.PartsInTurn.{first_part, no_octets, no_parts}
use Rattle.neighbor_fields.specs.Records.{record_len}
use Rattle.packet_stats.specs.Groups.{record_said, records_said}
use Rattle.packet_stats.specs.Stats.{state_of}
use Rattle.packet_stats.specs.Subject.{octets_in}
use Rattle.packet_stats.proofs.Counting.{on_err}
use Rattle.packet_stats.proofs.Turns.{all_said, none_yet, one_more, some_said}
use Rattle.packet_stats.proofs.stats.Stats.count_records.Goals as goal

pub loop-more-init : goal.loop-more-init
loop-more-init c =
    none_yet (state_of c.args.self.now)
    (records_said c.args.width (octets_in c.args.host) c.args.count c.args.octets.now)

pub loop-more-preserved : goal.loop-more-preserved
loop-more-preserved c =
    let said = record_said c.args.width (octets_in c.args.host) in
    let all = records_said c.args.width (octets_in c.args.host) in
    let first = rw c.record_len.ensures.value at c.split_at.ensures.front in
    let others = rw c.record_len.ensures.value at c.split_at.ensures.back in
    let next =
    first_part (record_len c.args.width) c.loop-more.more c.loop-more.left.now c.split_at.result.0.now
    c.split_at.result.1.now c.loop-more-test.true (omega arith) first others in
    one_more (state_of c.args.self.now) (state_of c.loop-more.self) (state_of c.count_record.new.self)
    (all c.args.count c.args.octets.now) (all c.loop-more.more c.loop-more.left.now) (said c.split_at.result.0.now)
    (all (c.loop-more.more - 1) c.split_at.result.1.now) (ap (flat_map said) next) c.loop-more.invariant
    c.in_ok-count_record.ensures.counts

pub returns-in_err-count_record-clause-fault : goal.returns-in_err-count_record-clause-fault
returns-in_err-count_record-clause-fault c =
    let said = record_said c.args.width (octets_in c.args.host) in
    let all = records_said c.args.width (octets_in c.args.host) in
    let first = rw c.record_len.ensures.value at c.split_at.ensures.front in
    let others = rw c.record_len.ensures.value at c.split_at.ensures.back in
    let next =
    first_part (record_len c.args.width) c.loop-more.more c.loop-more.left.now c.split_at.result.0.now
    c.split_at.result.1.now c.loop-more-test.true (omega arith) first others in
    on_err c.from_residual.result
    (some_said (state_of c.args.self.now) (state_of c.loop-more.self) (state_of c.count_record.new.self)
    (all c.args.count c.args.octets.now) (all c.loop-more.more c.loop-more.left.now) (said c.split_at.result.0.now)
    (all (c.loop-more.more - 1) c.split_at.result.1.now) (ap (flat_map said) next) c.loop-more.invariant
    c.in_err-count_record.ensures.fault)

pub returns-then-is_empty-clause-counts : goal.returns-then-is_empty-clause-counts
returns-then-is_empty-clause-counts c =
    let said = record_said c.args.width (octets_in c.args.host) in
    let all = records_said c.args.width (octets_in c.args.host) in
    let empty = eqb-true _ _ (sym c.is_empty.ensures ∙ c.if-is_empty.true) in
    let none = no_octets (record_len c.args.width) c.loop-more.more c.loop-more.left.now empty in
    all_said (state_of c.args.self.now) (state_of c.loop-more.self) (all c.args.count c.args.octets.now)
    (all c.loop-more.more c.loop-more.left.now) (ap (flat_map said) none) c.loop-more.invariant

pub returns-clause-counts : goal.returns-clause-counts
returns-clause-counts c =
    let said = record_said c.args.width (octets_in c.args.host) in
    let all = records_said c.args.width (octets_in c.args.host) in
    let none = no_parts (record_len c.args.width) c.loop-more.more c.loop-more.left.now
    (omega (arith, c.loop-more-test.false)) in
    all_said (state_of c.args.self.now) (state_of c.loop-more.self) (all c.args.count c.args.octets.now)
    (all c.loop-more.more c.loop-more.left.now) (ap (flat_map said) none) c.loop-more.invariant
