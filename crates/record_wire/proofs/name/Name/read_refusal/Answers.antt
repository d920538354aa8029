use Rattle.record_wire.proofs.Words.{RefusesName, subst}
use Rattle.record_wire.proofs.name.Name.read_refusal.Goals as goal

pub returns-in-Err-clause-told : goal.returns-in-Err-clause-told
returns-in-Err-clause-told c =
    subst (λ m. RefusesName c.args.bytes.now m c.in-Err.refusal) c.octets_of.ensures c.in-Err.ensures.told
