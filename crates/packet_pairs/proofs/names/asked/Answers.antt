-- The one question of a message, with its name; or there is none.
use Rattle.std.proofs.Common.{◌≡◌, rules, subst, sym}
use Rattle.dns_wire.specs.DnsPacket.{question_count_field, view_octets}
use Rattle.wirebase.specs.Bytes.{number_of}
use Rattle.record_wire.specs.Names.{Names}
use Rattle.record_wire.specs.Record.{IsQuestion, QuestionValue, question_of}
use Rattle.packet_pairs.proofs.names.asked.Goals as goal

pub returns-in-Err-clause-none : goal.returns-in-Err-clause-none
returns-in-Err-clause-none c none q labels h =
    c.in-Err.ensures.complete q h.rest (subst (λ l. IsQuestion l q h.rest) (sym c.payload.ensures) h.is)

pub returns-in-Ok-read-clause-some : goal.returns-in-Ok-read-clause-some
returns-in-Ok-read-clause-some c =
    let one : number_of question_count_field (view_octets c.args.packet.now) ≡ 1 = search rules in
    record {
      rest = c.in-Ok.field-0-0.now;
      one = one;
      is = subst (λ l. IsQuestion l (question_of c.in-Ok.question) c.in-Ok.field-0-0.now) c.payload.ensures
          c.in-Ok.ensures.sound;
      names = c.in-Ok-read.ensures.sound;
    }

pub returns-in-Err-read-clause-none : goal.returns-in-Err-read-clause-none
returns-in-Err-read-clause-none c none q labels h =
    let same = c.in-Ok.ensures.complete q h.rest (subst (λ l. IsQuestion l q h.rest) (sym c.payload.ensures) h.is) in
    c.in-Err-read.ensures.complete labels
    (subst (λ (x : QuestionValue). Names (view_octets c.args.packet.now) x.name labels) (sym same.0) h.names)
