use Rattle.extension_wire.proofs.Splits.{seen_behind}
use Rattle.extension_wire.proofs.split.has_structure.Goals as goal

pub returns-then-octets : goal.returns-then-octets
returns-then-octets c =
    seen_behind c.args.octets.now c.is_structure.result c.if-octets.true c.is_structure.ensures
