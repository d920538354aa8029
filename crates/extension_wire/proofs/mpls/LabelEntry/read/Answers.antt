use Rattle.extension_wire.proofs.Labels.{entry_by}
use Rattle.extension_wire.proofs.mpls.LabelEntry.read.Goals as goal

pub returns : goal.returns
returns c = entry_by c.args.octets.now c.u32_at-number.result c.requires c.u32_at-number.ensures
