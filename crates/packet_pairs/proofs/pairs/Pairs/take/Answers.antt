-- An answer is seen.
use Rattle.packet_pairs.specs.Key.{key_of}
use Rattle.packet_pairs.specs.Pairs.{state_of}
use Rattle.packet_pairs.proofs.Places.{sees_answer}
use Rattle.packet_pairs.proofs.pairs.Pairs.take.Goals as goal

pub returns-in-Answers-clause-sees : goal.returns-in-Answers-clause-sees
returns-in-Answers-clause-sees c =
    sees_answer c.answer.result (state_of c.args.self.now) (state_of c.answer.new.self) c.args.number c.args.time
    c.args.exchange.role (key_of c.args.exchange.key) c.in-Answers.is c.answer.ensures.sees
