-- The name, or why it can't be read.
use Rattle.dns_fields.specs.Record.{asks, asks_of_no_name}
use Rattle.dns_fields.proofs.record.show_question.Goals as goal

pub returns-in_ok-show_asked-in-Ok : goal.returns-in_ok-show_asked-in-Ok
returns-in_ok-show_asked-in-Ok g c = (
  _,
  asks _ (rw c.in-Ok.is at c.read_or_refusal-read.ensures.sound),
  c.in_ok-show_asked-in-Ok.ensures,
)

pub returns-in_ok-show_refused_question-in-Err : goal.returns-in_ok-show_refused_question-in-Err
returns-in_ok-show_refused_question-in-Err g c = (
  _,
  asks_of_no_name c.in-Err.refusal
      (λ labels names. rw c.in-Err.is at c.read_or_refusal-read.ensures.complete labels names)
      (rw c.in-Err.is at c.read_or_refusal-read.ensures.told),
  c.in_ok-show_refused_question-in-Err.ensures,
)
