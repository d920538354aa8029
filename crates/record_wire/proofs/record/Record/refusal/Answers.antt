use Rattle.record_wire.proofs.Words.{ap, arith, length, refl, take_rest}
use Rattle.record_wire.proofs.RecordFormat.{record_here}
use Rattle.record_wire.proofs.record.Record.refusal.Goals as goal

pub returns-clause-exact : goal.returns-clause-exact
returns-clause-exact c =
    let after = c.in-Ok.split.1.now in (
      λ _. record_here c.args.octets.now c.in-Ok.split.0.now after c.in-Ok.ensures.sound
          (omega (arith, c.if-after-lt-RECORD_END.false))
          (omega (arith, c.if-after-len.false, ap length (take_rest after 10), c.u16_at-len.ensures)),
      λ _. refl,
    )
