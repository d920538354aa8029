-- A datagram is read up to its end.
use Rattle.frame_wire.proofs.Words.{◌+◌, arith, common_steps, rules}
use Rattle.frame_wire.specs.Datagram.{HasHeader6, counted, short}
use Rattle.frame_wire.proofs.Tags.{told_not}
use Rattle.frame_wire.proofs.datagram.Datagram.parse_v6.Goals as goal

pub returns-then-octets-len-clause-refuses : goal.returns-then-octets-len-clause-refuses
returns-then-octets-len-clause-refuses c =
    let header : HasHeader6 c.args.octets.now = first_of (search rules, grind (arith, common_steps)) in
    let none = told_not _ c.is_jumbogram.ensures c.if-is_jumbogram.false in
    (header, short (40 + c.payload_len-len.result) (counted none (search rules)) (omega arith), c.head_v6.ensures)
