-- The router, the neighbor that it is, and its prefixes.
use Rattle.std.proofs.Common.{[], ◌∷◌, ◌++◌}
use Rattle.wirebase.specs.Ipv6Address.{octets_of}
use Rattle.packet_stats.specs.Neighbors.{prefixes_said, source_said}
use Rattle.packet_stats.specs.Row.{said_of}
use Rattle.packet_stats.specs.Stats.{state_of}
use Rattle.packet_stats.specs.Subject.{router}
use Rattle.packet_stats.proofs.Counting.{counts_both, on_err, some_more, some_then, then_broken, then_counted}
use Rattle.packet_stats.proofs.stats.Stats.count_router.Goals as goal

pub returns-clause-counts : goal.returns-clause-counts
returns-clause-counts c =
    let address = octets_of c.args.source in
    let first = said_of (router address) ∷ [] in
    let neighbor = source_said address c.args.options.now in
    let both =
    counts_both (state_of c.args.self.now) (state_of c.count_subject.new.self) (state_of c.count_source.new.self) first
    neighbor c.in_ok-count_subject.ensures.counts c.in_ok-count_source.ensures.counts in
    then_counted c.count_prefixes.result (state_of c.args.self.now) (state_of c.count_source.new.self)
    (state_of c.count_prefixes.new.self) (first ++ neighbor) (prefixes_said address c.args.options.now) both
    c.count_prefixes.ensures.counts

pub returns-clause-fault : goal.returns-clause-fault
returns-clause-fault c =
    let address = octets_of c.args.source in
    let first = said_of (router address) ∷ [] in
    let neighbor = source_said address c.args.options.now in
    let both =
    counts_both (state_of c.args.self.now) (state_of c.count_subject.new.self) (state_of c.count_source.new.self) first
    neighbor c.in_ok-count_subject.ensures.counts c.in_ok-count_source.ensures.counts in
    then_broken c.count_prefixes.result (state_of c.args.self.now) (state_of c.count_source.new.self)
    (state_of c.count_prefixes.new.self) (first ++ neighbor) (prefixes_said address c.args.options.now) both
    c.count_prefixes.ensures.fault

pub returns-in_err-count_subject-clause-fault : goal.returns-in_err-count_subject-clause-fault
returns-in_err-count_subject-clause-fault c =
    let address = octets_of c.args.source in
    on_err c.from_residual.result
    (some_more (state_of c.args.self.now) (state_of c.count_subject.new.self) (said_of (router address) ∷ [])
    (source_said address c.args.options.now ++ prefixes_said address c.args.options.now)
    c.in_err-count_subject.ensures.fault)

pub returns-in_err-count_source-clause-fault : goal.returns-in_err-count_source-clause-fault
returns-in_err-count_source-clause-fault c =
    let address = octets_of c.args.source in
    let neighbor = source_said address c.args.options.now in
    let prefixes = prefixes_said address c.args.options.now in
    on_err c.from_residual-in_err-count_source.result
    (some_then (state_of c.args.self.now) (state_of c.count_subject.new.self) (state_of c.count_source.new.self)
    (said_of (router address) ∷ []) (neighbor ++ prefixes) c.in_ok-count_subject.ensures.counts
    (some_more (state_of c.count_subject.new.self) (state_of c.count_source.new.self) neighbor prefixes
    c.in_err-count_source.ensures.fault))
