-- Names of the same octets have the same labels.
use Rattle.std.proofs.Common.{◌≡◌, ◌↔◌, ◌∙◌, IsTrue, ap, rules, sym}
use Rattle.record_wire.specs.Labels.{wire}
use Rattle.packet_stats.proofs.NameOctets.{same_labels}
use Rattle.packet_stats.proofs.subject.is_name.Goals as goal

pub returns : goal.returns
returns c =
    let same : IsTrue c.eq.result ↔ (c.octets.result.now ≡ c.octets-2.result.now) = search rules in
    let left = c.octets.ensures.value in
    let right = c.octets-2.ensures.value in (
      λ equal. same_labels c.args.name.now c.args.other.now (sym left ∙ same.0 equal ∙ right),
      λ equal. same.1 (left ∙ ap wire equal ∙ sym right),
    )
