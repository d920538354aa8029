-- The flags, and the target.
use Rattle.packet_fields.proofs.Fields.{prints_last}
use Rattle.neighbor_fields.proofs.ndisc.show_neighbor.Goals as goal

pub returns : goal.returns
returns g c =
    prints_last _ _ _ c.in_ok-show_neighbor_flags.ensures c.show_target.ensures
