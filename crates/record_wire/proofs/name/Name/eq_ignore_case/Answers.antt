use Rattle.record_wire.proofs.NameCases.{same_octets, same_labels}
use Rattle.record_wire.proofs.name.Name.eq_ignore_case.Goals as goal

pub returns : goal.returns
returns c =
    let a = c.args.self.now in
    let b = c.args.other.now in
    let test = rw (c.as_slice-left.ensures.value, c.as_slice.ensures.value) at c.eq_ignore_ascii_case.ensures.test in (
      λ t. same_octets a.octets.items b.octets.items a.whole b.whole (test.0 t),
      λ e. test.1 (same_labels a.octets.items b.octets.items a.whole b.whole e),
    )
