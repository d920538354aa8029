use Rattle.record_wire.proofs.NameCases.{same_octets, same_labels}
use Rattle.record_wire.proofs.name.NamePartialEq.eq.Goals as goal

pub returns-clause-octets : goal.returns-clause-octets
returns-clause-octets c =
    let a = c.args.self.now in
    let b = c.args.other.now in (
      λ t. same_labels a.octets.items b.octets.items a.whole b.whole (c.eq_ignore_case.ensures.0 t),
      λ e. c.eq_ignore_case.ensures.1 (same_octets a.octets.items b.octets.items a.whole b.whole e),
    )
