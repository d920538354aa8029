use Rattle.std.proofs.Common.{◌/◌, length, arith}
use Rattle.group_wire.specs.Family.{width}
use Rattle.group_wire.specs.Sources.{octets_in}
use Rattle.examples.proofs.Memberships.{length-sources}
use Rattle.examples.proofs.membership.keep_sources.Goals as goal

pub returns-then-len-kept-clause-accepts : goal.returns-then-len-kept-clause-accepts
returns-then-len-kept-clause-accepts g c =
    let octets = octets_in c.args.sources.now in
    let w = width g.A.Address.family in
    let len = length-sources w (length octets / w) octets in
    (λ no. cc, λ fits. absurd (omega (arith, len, fits, c.len.ensures, c.if-len-kept.true)))
