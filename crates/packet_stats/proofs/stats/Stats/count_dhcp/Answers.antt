-- A reply, or not.
use Rattle.std.proofs.Common.{◌∙◌, sym}
use Rattle.packet_stats.specs.Stats.{state_of}
use Rattle.packet_stats.proofs.DhcpSaid.{reply_broken, reply_counted, request_broken, request_counted}
use Rattle.packet_stats.proofs.stats.Stats.count_dhcp.Goals as goal

pub returns-then-is_reply-clause-counts : goal.returns-then-is_reply-clause-counts
returns-then-is_reply-clause-counts c =
    reply_counted c.args.octets.now (state_of c.args.self.now) (state_of c.count_lease.new.self) c.count_lease.result
    c.of-parts.result (sym c.is_reply.ensures.value ∙ c.if-is_reply.true) c.of-parts.ensures.parts
    c.count_lease.ensures.counts

pub returns-then-is_reply-clause-fault : goal.returns-then-is_reply-clause-fault
returns-then-is_reply-clause-fault c =
    reply_broken c.args.octets.now (state_of c.args.self.now) (state_of c.count_lease.new.self) c.count_lease.result
    c.of-parts.result (sym c.is_reply.ensures.value ∙ c.if-is_reply.true) c.of-parts.ensures.unique
    c.count_lease.ensures.fault

pub returns-clause-counts : goal.returns-clause-counts
returns-clause-counts c =
    request_counted c.args.octets.now (state_of c.args.self.now) (state_of c.count_request.new.self)
    c.count_request.result (sym c.is_reply.ensures.value ∙ c.if-is_reply.false) c.count_request.ensures.counts

pub returns-clause-fault : goal.returns-clause-fault
returns-clause-fault c =
    request_broken c.args.octets.now (state_of c.args.self.now) (state_of c.count_request.new.self)
    c.count_request.result (sym c.is_reply.ensures.value ∙ c.if-is_reply.false) c.count_request.ensures.fault
