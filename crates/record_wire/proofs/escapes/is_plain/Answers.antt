use Rattle.record_wire.proofs.Pieces.{table_tells}
use Rattle.record_wire.proofs.escapes.is_plain.Goals as goal

pub returns : goal.returns
returns c = rw (c.is_set.ensures, c.plain_of.ensures) (table_tells c.args.escaping c.args.byte c.ranges.byte.fits)
