use Rattle.record_wire.proofs.EdnsTiles.{tile_of, tile_one}
use Rattle.record_wire.proofs.edns.EdnsOptions.new.Goals as goal

pub returns-clause-tile : goal.returns-clause-tile
returns-clause-tile c = tile_of c.args.octets.now

pub returns-clause-unique : goal.returns-clause-unique
returns-clause-unique c answers tile = tile_one c.args.octets.now answers tile
