use Rattle.std.proofs.Common.{ℕ, sym}
use Rattle.group_wire.specs.Membership.{pseudo_sum}
use Rattle.group_wire.proofs.membership.Message+Ipv6Address+Query+Ipv6Address+Records+Ipv6Address.parse_mld.Goals
    as goal

pub returns-clause-rewrites : goal.returns-clause-rewrites
returns-clause-rewrites c =
    c.read.ensures.rewrites (λ (len : ℕ). pseudo_sum c.args.src_addr.now c.args.dst_addr.now len)
    (sym c.pseudo_sum.ensures)
