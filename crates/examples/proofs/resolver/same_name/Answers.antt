use Rattle.std.proofs.Common.{◌≡◌, Some, ap}
use Rattle.control_wire.specs.DnsNameWalk.{answer_of, label, ending}
use Rattle.examples.proofs.NameCases.{same_before, same_after, same_at_end, none_at_both}
use Rattle.examples.proofs.resolver.same_name.Goals as goal

pub loop-item-preserved : goal.loop-item-preserved
loop-item-preserved c =
    let first : answer_of (Some c.in-Some.item) ≡ label c.in-Ok.label.now = ap (λ i. answer_of (Some i)) c.in-Ok.is in
    let second = c.is_label.ensures.0 c.if-not-is_label.false in
    record {
      iterates = (tt, tt);
      back = λ same. c.loop-item.invariant.back
          (same_before c.loop-item.left c.next.new.self c.loop-item.right c.next-in-Some.new.self (Some c.in-Some.item)
          c.next-in-Some.result c.in-Ok.label.now c.in-Some.ensures.steps c.next-in-Some.ensures.steps first second
          same);
      forth = λ same. (same_after c.loop-item.left c.next.new.self c.loop-item.right c.next-in-Some.new.self
          (Some c.in-Some.item) c.next-in-Some.result c.in-Ok.label.now c.in-Some.ensures.steps
          c.next-in-Some.ensures.steps first (c.loop-item.invariant.forth same)).1;
    }

pub returns : goal.returns
returns c =
    let first : answer_of c.next.result ≡ ending = ap answer_of c.in_default.is in (
      λ t. c.loop-item.invariant.back
          (none_at_both c.loop-item.left c.next.new.self c.loop-item.right c.next-2.new.self c.next.result
          c.next-2.result c.next.ensures.steps c.next-2.ensures.steps first (c.is_end.ensures.0 t)),
      λ same. c.is_end.ensures.1
          (same_at_end c.loop-item.left c.next.new.self c.loop-item.right c.next-2.new.self c.next.result
          c.next-2.result c.next.ensures.steps c.next-2.ensures.steps first (c.loop-item.invariant.forth same)),
    )
