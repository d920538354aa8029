use Rattle.std.proofs.Common.{◌≡◌, drop}
use Rattle.examples.specs.RouterList.{is_on_link}
use Rattle.examples.proofs.router_list.is_on_link.Given as goal

-- whether one of the rest is, is whether one is
abbrev pub invariant-loop-prefix : goal.invariant-loop-prefix
invariant-loop-prefix l = is_on_link l.address (drop l.prefix-index l.prefixes) ≡ is_on_link l.address l.prefixes
