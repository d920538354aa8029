-- A question and its answer are paired.
use Rattle.packet_pairs.proofs.Pairing.{pairs_up}
use Rattle.packet_pairs.proofs.pairs.Pairs.new.Goals as goal

pub returns-clause-pairs_up : goal.returns-clause-pairs_up
returns-clause-pairs_up c = pairs_up
