use Rattle.std.proofs.Common.{ℕ, length, ◌*◌, ◌≤◌, ◌∙◌, arith}
use Rattle.std.proofs.lemmas.List.{length-take-le}
use Rattle.neighbor_wire.proofs.ServersAhead.{written_addresses}
use Rattle.neighbor_wire.proofs.servers.Servers.write.Goals as goal

pub returns-clause-servers : goal.returns-clause-servers
returns-clause-servers c =
    let n : ℕ = length c.args.addresses.now in
    let room : 16 * n ≤ length c.args.octets.now = omega (arith, c.if-addresses-octets.false) in
    c.new.ensures ∙ c.write_addresses.ensures
    ∙ written_addresses c.args.addresses.now _ (length-take-le (16 * n) c.args.octets.now room)
