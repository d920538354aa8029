-- The first number, and the others.
use Rattle.packet_fields.proofs.Printing.{gains_last, put}
use Rattle.dhcp_fields.proofs.kinds.put_numbers.Goals as goal

pub returns : goal.returns
returns g c =
    rw c.in-Some.ensures.cases.0
    (gains_last _ _ c.put_behind_commas.result (put g.W.Write.contents _ _ _ c.in_ok-put_number.ensures)
    c.put_behind_commas.ensures)
