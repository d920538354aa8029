use Rattle.packet_fields.proofs.Printing.{gained, gains_last, put_on_ok}
use Rattle.dhcp_fields.proofs.kinds.put_behind_comma.Goals as goal

pub returns : goal.returns
returns g c =
    let last = c.put_number.result in
    gains_last _ _ last (gained _ _ _ c.in_ok-write_all.ensures.bytes)
    (put_on_ok g.W.Write.contents _ _ _ last c.put_number.ensures)
