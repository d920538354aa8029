-- Each turn counts what an option says.
use Rattle.std.proofs.Common.{◌∙◌, ap, arith, sym}
use Rattle.std.specs.Prelude.{flat_map}
use Rattle.wirebase.specs.Ipv6Address.{octets_of}
use Rattle.packet_stats.specs.Neighbors.{prefix_said, prefixes_said}
use Rattle.packet_stats.specs.Stats.{state_of}
use Rattle.packet_stats.proofs.Counting.{on_err}
use Rattle.packet_stats.proofs.Options.{next_option, no_options}
use Rattle.packet_stats.proofs.Turns.{all_said, none_yet, one_more, some_said}
use Rattle.packet_stats.proofs.stats.Stats.count_prefixes.Goals as goal

pub loop-left-init : goal.loop-left-init
loop-left-init c =
    none_yet (state_of c.args.self.now) (prefixes_said (octets_of c.args.source) c.args.options.now)

pub loop-left-preserved : goal.loop-left-preserved
loop-left-preserved c =
    let said = prefix_said (octets_of c.args.source) in
    let option = rw c.len_of.ensures.value at c.split_at.ensures.front in
    let others = rw c.len_of.ensures.value at c.split_at.ensures.back in
    let next =
    next_option c.loop-left.left.now c.split_at.result.0.now c.split_at.result.1.now (omega arith) option others in
    one_more (state_of c.args.self.now) (state_of c.loop-left.self) (state_of c.count_prefix.new.self)
    (prefixes_said (octets_of c.args.source) c.args.options.now)
    (prefixes_said (octets_of c.args.source) c.loop-left.left.now) (said c.split_at.result.0.now)
    (prefixes_said (octets_of c.args.source) c.split_at.result.1.now) (ap (flat_map said) next) c.loop-left.invariant
    c.in_ok-count_prefix.ensures.counts

pub returns-in_err-count_prefix-clause-fault : goal.returns-in_err-count_prefix-clause-fault
returns-in_err-count_prefix-clause-fault c =
    let said = prefix_said (octets_of c.args.source) in
    let option = rw c.len_of.ensures.value at c.split_at.ensures.front in
    let others = rw c.len_of.ensures.value at c.split_at.ensures.back in
    let next =
    next_option c.loop-left.left.now c.split_at.result.0.now c.split_at.result.1.now (omega arith) option others in
    on_err c.from_residual.result
    (some_said (state_of c.args.self.now) (state_of c.loop-left.self) (state_of c.count_prefix.new.self)
    (prefixes_said (octets_of c.args.source) c.args.options.now)
    (prefixes_said (octets_of c.args.source) c.loop-left.left.now) (said c.split_at.result.0.now)
    (prefixes_said (octets_of c.args.source) c.split_at.result.1.now) (ap (flat_map said) next) c.loop-left.invariant
    c.in_err-count_prefix.ensures.fault)

pub returns-clause-counts : goal.returns-clause-counts
returns-clause-counts c =
    let said = prefix_said (octets_of c.args.source) in
    let none = no_options c.loop-left.left.now (sym c.is_empty.ensures ∙ c.loop-left-test.false) in
    all_said (state_of c.args.self.now) (state_of c.loop-left.self)
    (prefixes_said (octets_of c.args.source) c.args.options.now)
    (prefixes_said (octets_of c.args.source) c.loop-left.left.now) (ap (flat_map said) none) c.loop-left.invariant
