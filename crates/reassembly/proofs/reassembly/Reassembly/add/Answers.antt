-- What is kept stays within bounds.
use Rattle.reassembly.specs.Fragment.{value_of}
use Rattle.reassembly.specs.Reassembly.{state_of}
use Rattle.reassembly.proofs.Bounds.{stays_within}
use Rattle.reassembly.proofs.reassembly.Reassembly.add.Goals as goal

pub returns-clause-bounds : goal.returns-clause-bounds
returns-clause-bounds c =
    stays_within (state_of c.args.self.now) (state_of c.put.new.self) c.args.number (value_of c.args.fragment.now)
    c.put.result c.put.ensures.adds c.put.ensures.fault
