-- The octets that were put.
use Rattle.record_wire.proofs.Words.{Names, subst, sym, view_octets}
use Rattle.record_wire.proofs.LabelLists.{in_wire, wire_in}
use Rattle.record_wire.proofs.name.Name.read.Goals as goal

pub invariant_of-result : goal.invariant_of-result
invariant_of-result c =
    let named = c.in-Ok.ensures.sound in
    record { whole = wire_in c.put_name.new.octets.items named.labels named.names.fits.each named.written }

pub returns-in-Ok-clause-sound : goal.returns-in-Ok-clause-sound
returns-in-Ok-clause-sound c =
    let named = c.in-Ok.ensures.sound in
    let same = in_wire c.put_name.new.octets.items named.labels named.names.fits.each named.written in
    subst (λ labels. Names (view_octets c.args.packet.now) c.args.bytes.now labels) (sym same)
    (subst (λ m. Names m c.args.bytes.now named.labels) c.octets_of.ensures named.names)

pub returns-in-Ok-clause-complete : goal.returns-in-Ok-clause-complete
returns-in-Ok-clause-complete c = λ labels names.
    let written = (c.in-Ok.ensures.complete labels
    (subst (λ m. Names m c.args.bytes.now labels) (sym c.octets_of.ensures) names)).1 in
    in_wire c.put_name.new.octets.items labels names.fits.each written
