use Rattle.std.proofs.Common.{ℕ, refl}
use Rattle.group_wire.proofs.membership.Message+Ipv4Address+Query+Ipv4Address+Records+Ipv4Address.parse_igmp.Goals
    as goal

pub returns-clause-rewrites : goal.returns-clause-rewrites
returns-clause-rewrites c = c.read.ensures.rewrites (λ (len : ℕ). 0) refl
