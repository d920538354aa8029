-- The record, or why it can't be read.
use Rattle.dns_fields.specs.Record.{has, has_no_text}
use Rattle.dns_fields.proofs.record.show_record.Goals as goal

pub returns-in_ok-show_read-in-Ok : goal.returns-in_ok-show_read-in-Ok
returns-in_ok-show_read-in-Ok g c = (
  _,
  has _ (rw c.in-Ok.is at c.read_text-read.ensures.sound),
  rw c.flushes_cache-is_marked.ensures at c.in_ok-show_read-in-Ok.ensures,
)

pub returns-in_ok-show_refused_record-in-Err : goal.returns-in_ok-show_refused_record-in-Err
returns-in_ok-show_refused_record-in-Err g c =
    let (e, is, printed) = c.in_ok-show_refused_record-in-Err.ensures in (
      e,
      has_no_text c.in-Err.refusal e
          (λ value read. rw c.in-Err.is at c.read_text-read.ensures.complete value read)
          (rw c.in-Err.is at c.read_text-read.ensures.told) is,
      printed,
    )
