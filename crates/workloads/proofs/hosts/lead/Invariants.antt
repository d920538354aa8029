use Rattle.opt_wire.specs.Ipv6Hbh.{HaveData, value_of}
use Rattle.workloads.proofs.hosts.lead.Given as goal

abbrev pub invariant-loop-place : goal.invariant-loop-place
invariant-loop-place l = HaveData (value_of l.header)
