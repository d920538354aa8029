-- A datagram that is cut is read as far as it is there.
use Rattle.frame_wire.proofs.Words.{subst}
use Rattle.frame_wire.specs.Datagram.{Refuses6}
use Rattle.frame_wire.proofs.datagram.captured.Captured.parse_v6.Goals as goal

pub cut_v6-requires-clause-cut : goal.cut_v6-requires-clause-cut
cut_v6-requires-clause-cut c =
    let refused = subst (λ r. Refuses6 c.args.octets.now r) c.in-Err-Cut.field-0-is c.in-Err-Cut.ensures.refuses in
    refused.1
