-- The record, or why its name can't be read.
use Rattle.dns_fields.proofs.Entries.{record_as}
use Rattle.dns_fields.specs.Record.{is_of, is_of_no_name}
use Rattle.dns_fields.proofs.record.show_blank.Goals as goal

pub returns-in_ok-show_read-in-Ok : goal.returns-in_ok-show_read-in-Ok
returns-in_ok-show_read-in-Ok g c = (
  _,
  is_of _ c.in-Ok.ensures.sound,
  record_as _ _ _ _ _ _ _ _ _ c.blank_text-text.ensures
      (rw c.flushes_cache-is_marked.ensures at c.in_ok-show_read-in-Ok.ensures),
)

pub returns-in_ok-show_refused_record-in-Err : goal.returns-in_ok-show_refused_record-in-Err
returns-in_ok-show_refused_record-in-Err g c =
    let (e, is, printed) = c.in_ok-show_refused_record-in-Err.ensures in (
      e,
      is_of_no_name c.in-Err.refusal e (λ (labels, names). c.in-Err.ensures.complete labels names)
          c.in-Err.ensures.told is,
      printed,
    )
