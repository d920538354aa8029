use Rattle.opt_wire.proofs.NdiscOptionTiles.{tile_of, tile-unique}
use Rattle.opt_wire.proofs.ndiscoption.options.NdiscOptions.new.Goals as goal

pub returns-clause-tile : goal.returns-clause-tile
returns-clause-tile c = tile_of c.args.octets.now

pub returns-clause-unique : goal.returns-clause-unique
returns-clause-unique c = λ answers tile. tile-unique c.args.octets.now answers _ tile (tile_of c.args.octets.now)
