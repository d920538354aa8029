-- The options of the octets are the answers of an iterator over them.
use Rattle.record_wire.specs.Edns.{answers_in}
use Rattle.record_wire.proofs.EdnsTiles.{tile_of}
use Rattle.dns_fields.proofs.edns.OptionsValue.put.Goals as goal

pub returns-clause-text : goal.returns-clause-text
returns-clause-text g c =
    let octets = c.args.self.0.now in
    rw (c.new.ensures.unique (answers_in octets) (tile_of octets)) c.put_options.ensures
