use Rattle.neighbor_wire.proofs.OptionTiles.{tile_of, tile-unique}
use Rattle.neighbor_wire.proofs.options.NeighborOptions.new.Goals as goal

pub returns-clause-tile : goal.returns-clause-tile
returns-clause-tile c = tile_of c.args.octets.now

pub returns-clause-unique : goal.returns-clause-unique
returns-clause-unique c = λ answers tile. tile-unique c.args.octets.now answers _ tile (tile_of c.args.octets.now)
