use Rattle.record_wire.proofs.Words.{arith, refl}
use Rattle.record_wire.proofs.RecordFormat.{question_here}
use Rattle.record_wire.proofs.record.Question.refusal.Goals as goal

pub returns-clause-exact : goal.returns-clause-exact
returns-clause-exact c = (
  λ _. question_here c.args.octets.now c.in-Ok.split.0.now c.in-Ok.split.1.now c.in-Ok.ensures.sound
      (omega (arith, c.if-after-lt-QUESTION_END.false)),
  λ _. refl,
)
