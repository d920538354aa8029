use Rattle.std.proofs.Common.{List}
use Rattle.examples.specs.RouterList.{LearnsEach}
use Rattle.examples.specs.declared.router_list.entries.DnsServer.{DnsServer}
use Rattle.examples.proofs.router_list.learn_servers.Given as goal

-- what the servers that are left change then is what all change
abbrev pub invariant-loop-address : goal.invariant-loop-address
invariant-loop-address l =
    (new : List DnsServer) → LearnsEach l.lifetime l.address-iterator l.servers.items new
    → LearnsEach l.lifetime l.initial.address-iterator l.initial.servers.items new
