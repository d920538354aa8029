-- The parts of a row, one after another.
use Rattle.packet_fields.proofs.Printing.{◌then◌, gained, gained_on_ok, gains_last}
use Rattle.dump_captures.proofs.table.show_row.Goals as goal

pub returns : goal.returns
returns g c =
    let name = rw c.name.ensures at c.in_ok-put.ensures.text in
    gains_last _ _ _
    (name then gained _ _ _ c.in_ok-write_all.ensures.bytes then c.in_ok-put-2.ensures.text
    then c.in_ok-show_numbers.ensures then gained _ _ _ c.in_ok-write_all-2.ensures.bytes
    then c.in_ok-put-3.ensures.text)
    (gained_on_ok _ _ _ _ c.write_all-3.ensures.bytes)
