use Rattle.record_wire.proofs.Words.{ap, arith, length, refl, take_rest}
use Rattle.record_wire.proofs.EdnsTiles.{option_here}
use Rattle.record_wire.proofs.edns.EdnsOption.refusal.Goals as goal

pub returns-clause-exact : goal.returns-clause-exact
returns-clause-exact c =
    let octets = c.args.octets.now in (
      λ _. option_here octets (omega (arith, c.if-octets-lt-DATA.false))
          (omega (arith, c.if-octets-len.false, ap length (take_rest octets 4), c.u16_at-len.ensures)),
      λ _. refl,
    )
