-- The flags by the table of the specification.
use Rattle.neighbor_fields.specs.NdiscOptions.{prefix_flags}
use Rattle.neighbor_fields.proofs.ndisc.options.show_flags.Goals as goal

pub returns : goal.returns
unfolding prefix_flags
returns g c = c.keyed_cell.ensures
