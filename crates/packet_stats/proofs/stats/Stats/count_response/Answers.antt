-- The outcome, and the server.
use Rattle.std.proofs.Common.{◌≡◌, ◌∙◌, [], ◌∷◌, ap, subst, ℕ}
use Rattle.dns_wire.specs.DnsPacket.{rcode_in}
use Rattle.dns_fields.specs.Header.{word_in}
use Rattle.packet_stats.specs.Row.{said_of}
use Rattle.packet_stats.specs.Stats.{CountsOne, state_of}
use Rattle.packet_stats.specs.Subject.{octets_in, outcome, server}
use Rattle.packet_stats.proofs.Counting.{none_counted, on_err}
use Rattle.packet_stats.proofs.DnsSaid.{second_broken, two_counted}
use Rattle.packet_stats.proofs.stats.Stats.count_response.Goals as goal

pub returns-clause-counts : goal.returns-clause-counts
returns-clause-counts c =
    let is : c.rcode_of.result ≡ rcode_in (word_in c.args.octets.now) =
    c.rcode_of.ensures ∙ ap rcode_in c.word_of.ensures in
    two_counted c.mention-2.result (state_of c.args.self.now) (state_of c.mention.new.self)
    (state_of c.mention-2.new.self) (said_of (outcome (rcode_in (word_in c.args.octets.now))))
    (record { subject = server (octets_in c.args.source); after = c.args.after })
    (subst (λ (n : ℕ). CountsOne (state_of c.args.self.now) (said_of (outcome n)) (state_of c.mention.new.self)) is
    c.in_ok-mention.ensures.counts) c.mention-2.ensures.counts

pub returns-clause-fault : goal.returns-clause-fault
returns-clause-fault c =
    let is : c.rcode_of.result ≡ rcode_in (word_in c.args.octets.now) =
    c.rcode_of.ensures ∙ ap rcode_in c.word_of.ensures in
    second_broken c.mention-2.result (state_of c.args.self.now) (state_of c.mention.new.self)
    (state_of c.mention-2.new.self) (said_of (outcome (rcode_in (word_in c.args.octets.now))))
    (record { subject = server (octets_in c.args.source); after = c.args.after })
    (subst (λ (n : ℕ). CountsOne (state_of c.args.self.now) (said_of (outcome n)) (state_of c.mention.new.self)) is
    c.in_ok-mention.ensures.counts) c.mention-2.ensures.fault

pub returns-in_err-mention-clause-fault : goal.returns-in_err-mention-clause-fault
returns-in_err-mention-clause-fault c =
    on_err c.from_residual.result
    (none_counted (state_of c.args.self.now) (state_of c.mention.new.self)
    (said_of (outcome (rcode_in (word_in c.args.octets.now))))
    (record { subject = server (octets_in c.args.source); after = c.args.after } ∷ [])
    c.in_err-mention.ensures.fault)
