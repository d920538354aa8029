-- The name, or none and its octets.
use Rattle.dns_fields.specs.Record.{reads, reads_not}
use Rattle.dns_fields.proofs.Entries.{first_alone, first_with}
use Rattle.dns_fields.proofs.record.show_owner.Goals as goal

pub returns-in-Ok : goal.returns-in-Ok
returns-in-Ok g c = first_alone _ _ _ _ _ _ c.first_cell.result (reads _ c.in-Ok.ensures.sound) tt c.first_cell.ensures

pub returns-in_ok-show_no_name-in-Err : goal.returns-in_ok-show_no_name-in-Err
returns-in_ok-show_no_name-in-Err g c =
    first_with _ _ _ _ _ _ _ _ c.keyed_cell.result
    (reads_not (λ (labels, names). c.in-Err.ensures.complete labels names)) tt c.in_ok-show_no_name-in-Err.ensures
    c.keyed_cell.ensures
