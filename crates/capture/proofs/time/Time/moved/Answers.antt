-- Moving by 0 seconds changes nothing.
use Rattle.std.proofs.Common.{◌+◌, ◌*◌, ◌<◌, pos, refl, ap, sym, subst, ◌∙◌, arith, rules}
use Rattle.std.proofs.lemmas.Int.{to_z-of_z}
use Rattle.std.specs.Int.{w64, cast_signed}
use Rattle.capture.specs.Time.{IsTime, nanos_of, moved}
use Rattle.capture.specs.Types.{Time}
use Rattle.capture.proofs.time.Time.moved.Goals as goal

stays : (t : Time) → t.seconds < 18446744073709551616 → t.nanoseconds < 1000000000
    → IsTime t (moved (pos 0) (t.seconds * 1000000000 + t.nanoseconds)) t.digits
unfolding moved
stays t seconds part = record { sum = omega (arith, seconds, part); part = part; digits_are = refl }

pub returns-then-seconds-eq0 : goal.returns-then-seconds-eq0
returns-then-seconds-eq0 c =
    let none = sym (to_z-of_z w64 c.args.seconds c.ranges.seconds) ∙ ap (cast_signed w64) c.if-seconds-eq0.true in
    subst (λ z. IsTime c.args.self (moved z (nanos_of c.args.self)) c.args.self.digits) (sym none)
    (stays c.args.self (search rules) c.requires)
