use Rattle.std.proofs.Common.{◌≡◌, rules, subst, sym}
use Rattle.group_wire.specs.Family.{width}
use Rattle.group_wire.specs.Sources.{AreAddresses, addresses_in, octets_in}
use Rattle.group_wire.proofs.Families.{addresses_whole}
use Rattle.group_wire.proofs.sources.Sources.new.Goals as goal

pub returns-clause-addresses : goal.returns-clause-addresses
returns-clause-addresses g c =
    let f = g.A.Address.family in
    let same : octets_in c.of_octets.result ≡ addresses_in (width f) c.args.octets.now = search rules in
    subst (λ l. AreAddresses (width f) l) (sym same) (addresses_whole f c.args.octets.now)
