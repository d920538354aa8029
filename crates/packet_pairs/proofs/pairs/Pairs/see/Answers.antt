-- What is kept stays within bounds.
use Rattle.packet_pairs.specs.Exchange.{exchange_of}
use Rattle.packet_pairs.specs.Pairs.{state_of}
use Rattle.packet_pairs.proofs.Bounds.{stays_within}
use Rattle.packet_pairs.proofs.pairs.Pairs.see.Goals as goal

pub returns-clause-bounds : goal.returns-clause-bounds
returns-clause-bounds c =
    stays_within (state_of c.args.self.now) (state_of c.take.new.self) c.args.number c.args.time
    (exchange_of c.args.exchange) c.take.result c.take.ensures.sees c.take.ensures.fault
