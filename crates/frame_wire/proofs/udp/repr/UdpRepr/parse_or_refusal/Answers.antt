-- What is not read has a reason.
use Rattle.frame_wire.proofs.Witnesses.{told_some}
use Rattle.frame_wire.proofs.udp.repr.UdpRepr.parse_or_refusal.Goals as goal

pub unwrap-requires : goal.unwrap-requires
unwrap-requires c = told_some _ c.refusal.ensures.exact (λ read. c.in-Err.ensures.complete read.0 read.1)
