use Rattle.record_wire.proofs.Words.{◌≡◌, ◌+◌, ◌-◌, ◌∙◌, LabelsAtFront, Whole-front, ℕ, ap, arith, drop, front_of}
use Rattle.record_wire.proofs.Words.{length, subst, sym}
use Rattle.dns_wire.proofs.DnsNameTurns.{Whole-length}
use Rattle.record_wire.proofs.NameParts.{one_more_in_front, behind_one_more}
use Rattle.record_wire.proofs.name.part.read_labels.Goals as goal

pub loop-rest-preserved : goal.loop-rest-preserved
loop-rest-preserved c =
    let text = c.args.text.now in
    let left = c.loop-rest.left.now in
    let i = c.loop-rest.invariant in
    let b = c.in-Label.field-0.now in
    let rest = c.in-Label.rest.now in
    let len = length text - length left in
    let long : length left ≡ length b + length rest + 1 =
    Whole-length left b rest (Whole-front left b rest (sym c.in-Label.ensures)) in
    let front = c.in-Label.ensures ∙ ap front_of i.at in
    let e : len + (1 + length b) ≡ length text - length rest = omega (arith, long, i.fits) in
    record {
      labels = subst (λ (n : ℕ). LabelsAtFront text n) e (one_more_in_front text b rest len i.labels front);
      fits = omega (arith, long, i.fits);
      at = sym (behind_one_more text b rest len front) ∙ ap (λ n. drop n text) e;
    }
