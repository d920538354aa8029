-- A query or a response.
use Rattle.std.proofs.Common.{◌≡◌, ◌<◌, ◌≤◌, arith, refl, rules}
use Rattle.wirebase.specs.Bytes.{Reaches}
use Rattle.dns_wire.specs.DnsPacket.{header, view_octets}
use Rattle.dns_fields.specs.Header.{word_in}
use Rattle.packet_stats.specs.Dns.{short}
use Rattle.packet_stats.specs.Stats.{state_of}
use Rattle.packet_stats.proofs.DnsSaid.{query_broken, query_counted, response_broken, response_counted}
use Rattle.packet_stats.proofs.stats.Stats.count_dns.Goals as goal

pub returns-then-word_of-lt-RESPONSE-clause-counts : goal.returns-then-word_of-lt-RESPONSE-clause-counts
returns-then-word_of-lt-RESPONSE-clause-counts c =
    let whole : Reaches header c.args.octets.now = search rules in
    let asks : word_in c.args.octets.now < 0x8000 = omega (arith, c.word_of.ensures) in
    let same : view_octets c.in-Ok.packet ≡ c.args.octets.now = search rules in
    query_counted c.args.source c.args.after c.args.octets.now (state_of c.args.self.now)
    (state_of c.count_questions.new.self) c.count_questions.result (view_octets c.in-Ok.packet) same whole asks
    c.count_questions.ensures.counts

pub returns-then-word_of-lt-RESPONSE-clause-fault : goal.returns-then-word_of-lt-RESPONSE-clause-fault
returns-then-word_of-lt-RESPONSE-clause-fault c =
    let whole : Reaches header c.args.octets.now = search rules in
    let asks : word_in c.args.octets.now < 0x8000 = omega (arith, c.word_of.ensures) in
    let same : view_octets c.in-Ok.packet ≡ c.args.octets.now = search rules in
    query_broken c.args.source c.args.after c.args.octets.now (state_of c.args.self.now)
    (state_of c.count_questions.new.self) c.count_questions.result (view_octets c.in-Ok.packet) same whole asks
    c.count_questions.ensures.fault

pub returns-clause-counts : goal.returns-clause-counts
returns-clause-counts c =
    let whole : Reaches header c.args.octets.now = search rules in
    let responds : 0x8000 ≤ word_in c.args.octets.now = omega (arith, c.word_of.ensures) in
    response_counted c.args.source c.args.after c.args.octets.now (state_of c.args.self.now)
    (state_of c.count_response.new.self) c.count_response.result whole responds c.count_response.ensures.counts

pub returns-clause-fault : goal.returns-clause-fault
returns-clause-fault c =
    let whole : Reaches header c.args.octets.now = search rules in
    let responds : 0x8000 ≤ word_in c.args.octets.now = omega (arith, c.word_of.ensures) in
    response_broken c.args.source c.args.after c.args.octets.now (state_of c.args.self.now)
    (state_of c.count_response.new.self) c.count_response.result whole responds c.count_response.ensures.fault

pub returns-in-Err-clause-counts : goal.returns-in-Err-clause-counts
returns-in-Err-clause-counts c =
    (_, short (λ whole. let accepted = c.in-Err.ensures.accepts.1 whole in cc accepted) refl, refl)
