-- One division more is a division by the next power.
use Rattle.std.proofs.Common.{◌/◌, ◌^◌, ap, ◌∙◌, add-one}
use Rattle.std.proofs.Math.Nat.{div-div-eq-div-mul, pow-suc}
use Rattle.capture.proofs.time.divided.Goals as goal

pub loop-preserved : goal.loop-preserved
loop-preserved c =
    rw (add-one, pow-suc)
    (ap (λ n. n / c.args.base) c.loop.invariant ∙ div-div-eq-div-mul c.args.number (c.args.base ^ c.loop.counter)
    c.args.base)
