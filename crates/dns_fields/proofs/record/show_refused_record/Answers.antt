-- Its name, what else is known of it, and why it is refused.
use Rattle.std.proofs.Common.{refl}
use Rattle.dns_fields.proofs.Entries.{◌beside◌, some_printed}
use Rattle.packet_fields.proofs.EntryChains.{entry_printed}
use Rattle.dns_fields.proofs.record.show_refused_record.Goals as goal

pub returns : goal.returns
returns g c =
    let (name, owner, is, front) = c.in_ok-show_owner.ensures in
    some_printed _ _ _ _ _ _ c.close_entry.result (name, owner, is, refl)
    (entry_printed _ _ _ _ _ _ _ _ c.close_entry.result front.fits (rw c.label_of.ensures at c.in_ok-open_entry.ensures)
    front.gains (front.prints beside c.in_ok-show_known.ensures beside c.in_ok-show_why.ensures)
    c.close_entry.ensures)
