use Rattle.record_wire.proofs.Words.{◌≡◌, ◌≢◌, ◌∙◌, Section, ap, question, record_in, record_of, rules, sym}
use Rattle.record_wire.proofs.EntryCases.{as_question, as_record}
use Rattle.record_wire.proofs.entries.read_entry.Goals as goal

pub returns-in_err-rest-clause-complete : goal.returns-in_err-rest-clause-complete
returns-in_err-rest-clause-complete c = λ value rest is.
    let first : c.args.section ≡ Section.Question = search rules in
    as_question c.args.section c.args.bytes.now rest value first
    (λ q e asks. absurd (c.in_err-rest.ensures.complete q rest asks)) is

pub returns-then-eq-clause-complete : goal.returns-then-eq-clause-complete
returns-then-eq-clause-complete c = λ value rest is.
    let first : c.args.section ≡ Section.Question = search rules in
    as_question c.args.section c.args.bytes.now rest value first
    (λ q e asks. let same = c.in_ok-rest.ensures.complete q rest asks in (ap question same.0 ∙ sym e, same.1)) is

pub returns-in_err-rest-2-clause-complete : goal.returns-in_err-rest-2-clause-complete
returns-in_err-rest-2-clause-complete c = λ value rest is.
    let other : c.args.section ≢ Section.Question = search rules in
    as_record c.args.section c.args.bytes.now rest value other
    (λ s r e same reads. absurd (c.in_err-rest-2.ensures.complete r rest reads)) is

pub returns-clause-complete : goal.returns-clause-complete
returns-clause-complete c = λ value rest is.
    let other : c.args.section ≢ Section.Question = search rules in
    as_record c.args.section c.args.bytes.now rest value other
    (λ s r e section reads.
    let same = c.in_ok-rest-2.ensures.complete r rest reads in (
      ap (λ (t : Section). record_in t (record_of c.in_ok-rest-2.record)) (sym section)
          ∙ (ap (λ t. record_in s t) same.0 ∙ sym e),
      same.1,
    )) is
