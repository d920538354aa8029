use Rattle.std.proofs.Common.{ℕ, ◌+◌, ◌∙◌, sym, ap}
use Rattle.extension_wire.specs.InterfaceParts.{family_of}
use Rattle.extension_wire.proofs.InterfacePartsRead.{address_by}
use Rattle.extension_wire.proofs.interface.reading.read_address.Goals as goal

pub returns-clause-sound : goal.returns-clause-sound
returns-clause-sound c =
    address_by c.args.there c.args.octets.now c.in-Some.family _ c.if-not-there.false c.if-octets-lt-ADDRESS_AT.false
    (sym (ap (λ (n : ℕ). family_of n) c.u16_at-number.ensures) ∙ sym c.family_of.ensures ∙ c.in-Some.is)
    (ap (λ (n : ℕ). 4 + n) c.width-end.ensures) c.if-octets-end.false
