use Rattle.record_wire.proofs.Words.{◌≡◌, ◌≢◌, Section, rules}
use Rattle.record_wire.proofs.EntryCases.{has_question, question_has, has_record, record_has}
use Rattle.record_wire.proofs.entries.why_no_entry.Goals as goal

pub returns-then-eq-clause-exact : goal.returns-then-eq-clause-exact
returns-then-eq-clause-exact c =
    let first : c.args.section ≡ Section.Question = search rules in (
      λ none. question_has c.args.section c.args.bytes.now first (c.refusal.ensures.exact.0 none),
      λ has. c.refusal.ensures.exact.1 (has_question c.args.section c.args.bytes.now first has),
    )

pub returns-clause-exact : goal.returns-clause-exact
returns-clause-exact c =
    let other : c.args.section ≢ Section.Question = search rules in (
      λ none. record_has c.args.section c.args.bytes.now other (c.refusal-2.ensures.exact.0 none),
      λ has. c.refusal-2.ensures.exact.1 (has_record c.args.section c.args.bytes.now other has),
    )
