use Rattle.opt_wire.proofs.Ipv6OptionTiles.{tile_of, tile-unique, sum-tile}
use Rattle.opt_wire.proofs.ipv6option.options.Ipv6OptionsIterator.new.Goals as goal

pub returns-clause-tile : goal.returns-clause-tile
returns-clause-tile c = tile_of c.args.octets.now

pub returns-clause-unique : goal.returns-clause-unique
returns-clause-unique c = λ answers tile. tile-unique c.args.octets.now answers _ tile (tile_of c.args.octets.now)

pub returns-clause-lengths : goal.returns-clause-lengths
returns-clause-lengths c = λ options e. sum-tile c.args.octets.now _ (tile_of c.args.octets.now) options e
