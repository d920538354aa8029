use Rattle.record_wire.proofs.Words.{answers_in}
use Rattle.record_wire.proofs.EdnsTiles.{tile_of}
use Rattle.record_wire.proofs.text.opt.OptionsDisplay.fmt.Goals as goal

pub returns-clause-writes : goal.returns-clause-writes
returns-clause-writes g c =
    let octets = c.args.self.now.0.now in
    rw (c.new.ensures.unique (answers_in octets) (tile_of octets)) c.fmt_options.ensures
