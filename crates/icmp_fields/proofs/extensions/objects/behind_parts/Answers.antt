-- The parts begin with as many octets as they would take without a name and an MTU.
use Rattle.std.proofs.Common.{arith}
use Rattle.extension_wire.specs.Interface.{value_of}
use Rattle.icmp_fields.proofs.InterfaceEnds.{parts_end}
use Rattle.icmp_fields.proofs.extensions.objects.behind_parts.Goals as goal

pub behind_mtu-requires : goal.behind_mtu-requires
behind_mtu-requires c =
    let v = value_of c.args.read.now in
    let ends = parts_end _ _ v c.requires c.buffer_len.result (omega (arith, c.buffer_len.ensures)) in
    rw (c.behind_name.ensures, c.split_at.ensures.back) ends.mtu

pub returns : goal.returns
returns c is =
    let v = value_of c.args.read.now in
    let ends = parts_end _ _ v is c.buffer_len.result (omega (arith, c.buffer_len.ensures)) in
    rw (c.behind_mtu.ensures, c.behind_name.ensures, c.split_at.ensures.back) ends.rest
