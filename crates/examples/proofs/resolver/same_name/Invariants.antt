use Rattle.control_wire.specs.DnsPacket.{view_octets}
use Rattle.examples.specs.Resolver.{AreSameName}
use Rattle.examples.proofs.NameCases.{GiveSameName}
use Rattle.examples.proofs.resolver.same_name.Given as goal

abbrev pub invariant-loop-item : goal.invariant-loop-item
invariant-loop-item l = record {
  iterates : (goal.iterator-loop-item).can_next l.left × (goal.iterator-loop-item).is_finite l.left;
  back : GiveSameName l.left.ahead l.right.ahead → AreSameName (view_octets l.packet) l.a l.b;
  forth : AreSameName (view_octets l.packet) l.a l.b → GiveSameName l.left.ahead l.right.ahead;
}
