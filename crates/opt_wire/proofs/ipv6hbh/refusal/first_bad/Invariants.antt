use Rattle.opt_wire.specs.Ipv6HbhRefusal.{AreBehind}
use Rattle.opt_wire.proofs.ipv6hbh.refusal.first_bad.Given as goal

abbrev pub invariant-loop-index : goal.invariant-loop-index
invariant-loop-index l = AreBehind l.octets l.index l.rest
