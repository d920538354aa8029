use Rattle.std.proofs.Common.{◌∙◌, arith, sym, length}
use Rattle.std.proofs.lemmas.Bool.{eqb-false}
use Rattle.extension_wire.proofs.InterfacePartsRead.{name_by}
use Rattle.extension_wire.proofs.interface.reading.read_name.Goals as goal

pub returns-clause-sound : goal.returns-clause-sound
returns-clause-sound c =
    name_by c.args.there c.args.octets.now c.trimmed.result.now c.if-not-there.false
    (omega (arith, eqb-false (length c.args.octets.now) 0 (sym c.is_empty.ensures ∙ c.if-is_empty.false)))
    c.if-end-lt4.false c.if-end-ne0.false c.if-end.false c.if-octets-end.false c.trimmed.ensures
