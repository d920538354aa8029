use Rattle.std.proofs.Common.{refl}
use Rattle.extension_wire.specs.Mpls.{octets_in}
use Rattle.extension_wire.proofs.Labels.{entries_of, entries_fit}
use Rattle.extension_wire.proofs.mpls.LabelStack.iter.Goals as goal

pub returns-clause-entries : goal.returns-clause-entries
returns-clause-entries c = entries_of _ (octets_in c.args.self.now) refl

pub returns-clause-fit : goal.returns-clause-fit
returns-clause-fit c =
    entries_fit (octets_in c.args.self.now) _ c.are_bytes.ensures (returns-clause-entries c)
