-- Each turn counts the next question.
use Rattle.std.proofs.Common.{arith}
use Rattle.wirebase.specs.Bytes.{number_of}
use Rattle.dns_wire.specs.DnsPacket.{payload_in, question_count_field, view_octets}
use Rattle.record_wire.specs.Record.{question_of}
use Rattle.packet_stats.specs.Stats.{state_of}
use Rattle.packet_stats.proofs.AskedInTurn.{all_counted, all_left, broken_off, one_more, part_of_next}
use Rattle.packet_stats.proofs.Counting.{on_err}
use Rattle.packet_stats.proofs.stats.Stats.count_questions.Goals as goal

pub loop-more-init : goal.loop-more-init
loop-more-init c =
    let message = view_octets c.args.packet.now in
    all_left message (payload_in message) (number_of question_count_field message) (state_of c.args.self.now)
    c.payload-left.result.now c.question_count-more.result c.payload-left.ensures c.question_count-more.ensures

pub loop-more-preserved : goal.loop-more-preserved
loop-more-preserved c =
    let message = view_octets c.args.packet.now in
    one_more message (payload_in message) (number_of question_count_field message) (state_of c.args.self.now)
    c.loop-more.left.now c.in-Ok.rest.now c.loop-more.more (state_of c.loop-more.self)
    (state_of c.count_question.new.self) (question_of c.in-Ok.question) c.loop-more-test.true
    (λ p r is. c.in-Ok.ensures.complete p r is) c.in-Ok.ensures.sound c.loop-more.invariant
    c.in_ok-count_question-in-Ok.ensures.counts

pub returns-in_err-count_question-in-Ok-clause-fault : goal.returns-in_err-count_question-in-Ok-clause-fault
returns-in_err-count_question-in-Ok-clause-fault c =
    let message = view_octets c.args.packet.now in
    on_err c.from_residual.result
    (part_of_next message (payload_in message) (number_of question_count_field message) (state_of c.args.self.now)
    c.loop-more.left.now c.in-Ok.rest.now c.loop-more.more (state_of c.loop-more.self)
    (state_of c.count_question.new.self) (question_of c.in-Ok.question) c.loop-more-test.true
    (λ p r is. c.in-Ok.ensures.complete p r is) c.in-Ok.ensures.sound c.loop-more.invariant
    c.in_err-count_question-in-Ok.ensures.fault)

pub returns-in-Err-clause-counts : goal.returns-in-Err-clause-counts
returns-in-Err-clause-counts c =
    let message = view_octets c.args.packet.now in
    broken_off message (payload_in message) (number_of question_count_field message) (state_of c.args.self.now)
    c.loop-more.left.now c.loop-more.more (state_of c.loop-more.self) c.loop-more-test.true
    (λ p r is. c.in-Err.ensures.complete p r is) c.loop-more.invariant

pub returns-clause-counts : goal.returns-clause-counts
returns-clause-counts c =
    let message = view_octets c.args.packet.now in
    all_counted message (payload_in message) (number_of question_count_field message) (state_of c.args.self.now)
    c.loop-more.left.now c.loop-more.more (state_of c.loop-more.self) (omega (arith, c.loop-more-test.false))
    c.loop-more.invariant
