-- The octets that were put.
use Rattle.record_wire.proofs.Words.{Names, subst, sym}
use Rattle.record_wire.proofs.LabelLists.{in_wire, wire_in}
use Rattle.record_wire.proofs.name.refusal.read_name.Goals as goal

pub invariant_of-result : goal.invariant_of-result
invariant_of-result c =
    let named = c.in-Ok.ensures.sound in
    record { whole = wire_in c.put_name.new.octets.items named.labels named.names.fits.each named.written }

pub returns-in-Ok-clause-sound : goal.returns-in-Ok-clause-sound
returns-in-Ok-clause-sound c =
    let named = c.in-Ok.ensures.sound in
    let same = in_wire c.put_name.new.octets.items named.labels named.names.fits.each named.written in
    subst (λ labels. Names c.args.message.now c.args.bytes.now labels) (sym same) named.names

pub returns-in-Ok-clause-complete : goal.returns-in-Ok-clause-complete
returns-in-Ok-clause-complete c = λ labels names.
    in_wire c.put_name.new.octets.items labels names.fits.each (c.in-Ok.ensures.complete labels names).1
