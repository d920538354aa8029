use Rattle.record_wire.proofs.Words.{IfErr, RefusesName, subst}
use Rattle.record_wire.proofs.name.Name.read_or_refusal.Goals as goal

pub returns-clause-told : goal.returns-clause-told
returns-clause-told c =
    subst (λ m. IfErr c.read_name.result (λ why. RefusesName c.args.bytes.now m why)) c.octets_of.ensures
    c.read_name.ensures.told
