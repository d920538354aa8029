-- The record, or why its name can't be read.
use Rattle.dns_fields.specs.Nbns.{has, has_no_name}
use Rattle.dns_fields.proofs.nbns.show_record.Goals as goal

pub returns-in_ok-show_read-in-Ok : goal.returns-in_ok-show_read-in-Ok
returns-in_ok-show_read-in-Ok g c =
    rw (c.unread_data.ensures, c.layout_of-layout.ensures, c.word_of.ensures, c.octets_of.ensures) (
      _,
      has _ c.in-Ok.ensures.sound,
      rw (c.layout_of-layout.ensures, c.word_of.ensures, c.octets_of.ensures) at c.in_ok-show_read-in-Ok.ensures,
    )

pub returns-in_ok-show_refused_record-in-Err : goal.returns-in_ok-show_refused_record-in-Err
returns-in_ok-show_refused_record-in-Err g c =
    let (e, is, printed) = c.in_ok-show_refused_record-in-Err.ensures in (
      e,
      has_no_name c.in-Err.refusal e (λ (labels, names). c.in-Err.ensures.complete labels names)
          c.in-Err.ensures.told is,
      printed,
    )
