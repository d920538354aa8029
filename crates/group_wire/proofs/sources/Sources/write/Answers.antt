use Rattle.std.proofs.Common.{ℕ, length, ◌*◌, ap, sym, ◌∙◌}
use Rattle.std.proofs.lemmas.List.{length-take-le}
use Rattle.group_wire.specs.Family.{width}
use Rattle.group_wire.proofs.Families.{times_fits}
use Rattle.group_wire.proofs.RecordTexts.{written_addresses, counted_addresses}
use Rattle.group_wire.proofs.sources.Sources.write.Goals as goal

pub returns-clause-sources : goal.returns-clause-sources
returns-clause-sources g c =
    let f = g.A.Address.family in
    let n : ℕ = length c.args.addresses.now in
    let same = c.width.ensures ∙ sym c.width-2.ensures in
    let room = times_fits f c.width.result n (length c.args.octets.now) c.width.ensures c.if-addresses-octets.false in
    c.of_octets.ensures ∙ c.write_addresses.ensures
    ∙ written_addresses g.A.Address.bytes (width f) g.met.A.Address.whole c.args.addresses.now _
    (length-take-le (c.width-2.result * n) c.args.octets.now (rw (sym same) room)
    ∙ ap (λ (w : ℕ). w * n) c.width-2.ensures)

pub returns-clause-addresses : goal.returns-clause-addresses
returns-clause-addresses g c =
    counted_addresses g.A.Address.bytes g.A.Address.family g.met.A.Address.whole c.args.addresses.now _
    (returns-clause-sources g c) c.if-addresses.false
