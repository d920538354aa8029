use Rattle.extension_wire.specs.Objects.{octets_in}
use Rattle.extension_wire.specs.private.Objects.{answers_in}
use Rattle.extension_wire.proofs.ObjectsAhead.{tile_of, tile_one}
use Rattle.extension_wire.proofs.object.Objects.iter.Goals as goal

pub returns-clause-tile : goal.returns-clause-tile
returns-clause-tile c = tile_of (octets_in c.args.self.now)

pub returns-clause-unique : goal.returns-clause-unique
returns-clause-unique c answers tile =
    tile_one (octets_in c.args.self.now) answers (answers_in (octets_in c.args.self.now)) tile
    (tile_of (octets_in c.args.self.now))
