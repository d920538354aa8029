-- The brackets, and the numbers between them.
use Rattle.packet_fields.proofs.Printing.{◌then◌, gained, gained_on_ok, gains_last}
use Rattle.dump_captures.proofs.Vlans.{array_is}
use Rattle.dump_captures.proofs.members.put_array.Goals as goal

pub returns : goal.returns
returns g c =
    rw (← array_is c.args.tags.now)
    (gains_last _ _ c.write_all-2.result (gained _ _ _ c.in_ok-write_all.ensures.bytes then c.in_ok-put_numbers.ensures)
    (gained_on_ok _ _ _ _ c.write_all-2.ensures.bytes))
