use Rattle.header_wire.proofs.OptionTiles.{tile_of, tile-one}
use Rattle.header_wire.proofs.options.Options.new.Goals as goal

pub returns-clause-tile : goal.returns-clause-tile
returns-clause-tile c = tile_of c.args.octets.now

pub returns-clause-unique : goal.returns-clause-unique
returns-clause-unique c = λ answers tile. tile-one c.args.octets.now answers _ tile (tile_of c.args.octets.now)
