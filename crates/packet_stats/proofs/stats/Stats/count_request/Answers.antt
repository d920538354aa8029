-- The client of a request is counted.
use Rattle.std.proofs.Common.{◌∙◌, OnErr, OnOk, subst, sym}
use Rattle.packet_stats.specs.Stats.{CountsAll, CountsSome, state_of}
use Rattle.packet_stats.proofs.DhcpSaid.{client_is}
use Rattle.packet_stats.proofs.stats.Stats.count_request.Goals as goal

pub returns-then-is_request-clause-counts : goal.returns-then-is_request-clause-counts
returns-then-is_request-clause-counts c =
    let said =
    client_is c.args.octets.now c.hardware_of.result.items (sym c.is_request.ensures.value ∙ c.if-is_request.true)
    c.hardware_of.ensures in
    subst
    (λ l. OnOk c.count_subject.result (CountsAll (state_of c.args.self.now) l (state_of c.count_subject.new.self)))
    said c.count_subject.ensures.counts

pub returns-then-is_request-clause-fault : goal.returns-then-is_request-clause-fault
returns-then-is_request-clause-fault c =
    let said =
    client_is c.args.octets.now c.hardware_of.result.items (sym c.is_request.ensures.value ∙ c.if-is_request.true)
    c.hardware_of.ensures in
    subst
    (λ l. OnErr c.count_subject.result (CountsSome (state_of c.args.self.now) l (state_of c.count_subject.new.self)))
    said c.count_subject.ensures.fault
