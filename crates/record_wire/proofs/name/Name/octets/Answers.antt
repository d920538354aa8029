use Rattle.record_wire.proofs.Words.{ap, arith, length}
use Rattle.record_wire.proofs.LabelLists.{each_in}
use Rattle.record_wire.proofs.name.Name.octets.Goals as goal

pub returns-clause-name : goal.returns-clause-name
returns-clause-name c = record {
  each = each_in c.args.self.now.octets.items;
  fits = omega (arith, ap length c.args.self.now.whole, ap length c.as_slice.ensures.value, c.as_slice.ensures.fits);
}
