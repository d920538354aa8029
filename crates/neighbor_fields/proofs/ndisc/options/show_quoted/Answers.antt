-- The fields, one after another.
use Rattle.packet_fields.proofs.Fields.{cells_both}
use Rattle.packet_fields.proofs.EntryChains.{cells_last}
use Rattle.neighbor_fields.proofs.ndisc.options.show_quoted.Goals as goal

pub returns : goal.returns
returns g c =
    let dst_addr = rw c.field-dst_addr.ensures.value at c.in_ok-keyed_cell.ensures in
    let next_header = rw c.u8_at.ensures at c.in_ok-keyed_cell-2.ensures in
    let hop_limit = rw c.u8_at-2.ensures at c.in_ok-keyed_cell-3.ensures in
    let payload_len = rw c.u16_at.ensures at c.in_ok-keyed_cell-4.ensures in
    let payload = rw c.split_at.ensures.back at c.keyed_cell-5.ensures in
    let two = cells_both _ _ _ _ _ _ dst_addr next_header in
    let three = cells_both _ _ _ _ _ _ two hop_limit in
    cells_last _ _ _ (cells_both _ _ _ _ _ _ three payload_len) payload
