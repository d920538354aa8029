-- Each turn looks at one step.
use Rattle.std.proofs.Common.{◌≡◌, refl}
use Rattle.dump_lines.proofs.Searching.{holds_step}
use Rattle.dump_lines.proofs.search.steps_of_spaces.Goals as goal

pub loop-step-preserved : goal.loop-step-preserved
loop-step-preserved c =
    holds_step (λ octet. octet ≡ 32) c.args.octets.now c.loop-step.step _ c.loop-step.invariant refl
    (c.has_other.ensures c.if-has_other.false)
