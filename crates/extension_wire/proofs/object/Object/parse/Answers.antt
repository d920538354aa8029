use Rattle.extension_wire.proofs.ObjectsAhead.{object_by, object_one}
use Rattle.extension_wire.proofs.ObjectFormat.{object_rewrites}
use Rattle.extension_wire.proofs.object.Object.parse.Goals as goal

pub returns-clause-sound : goal.returns-clause-sound
returns-clause-sound c =
    object_by c.args.octets.now c.u16_at-len.result _ _ c.if-octets-lt-HEADER_END.false c.u16_at-len.ensures
    c.if-len-lt-HEADER_END.false c.if-octets-len.false c.u8_at.ensures c.u8_at-2.ensures

pub returns-clause-complete : goal.returns-clause-complete
returns-clause-complete c value rest is =
    object_one c.args.octets.now _ value _ rest (returns-clause-sound c) is

pub returns-clause-rewrites : goal.returns-clause-rewrites
returns-clause-rewrites c = object_rewrites c.args.octets.now _ _ c.are_bytes.ensures (returns-clause-sound c)
