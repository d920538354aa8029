-- The flags, and the lifetimes.
use Rattle.packet_fields.proofs.Fields.{cells_both}
use Rattle.packet_fields.proofs.EntryChains.{cells_last}
use Rattle.neighbor_fields.proofs.ndisc.options.show_lifetimes.Goals as goal

pub returns : goal.returns
returns g c =
    let flags = rw c.u8_at.ensures at c.in_ok-show_flags.ensures in
    let valid = rw c.u32_at.ensures at c.in_ok-keyed_cell.ensures in
    let preferred = rw c.u32_at-2.ensures at c.keyed_cell-2.ensures in
    cells_last _ _ _ (cells_both _ _ _ _ _ _ flags valid) preferred
