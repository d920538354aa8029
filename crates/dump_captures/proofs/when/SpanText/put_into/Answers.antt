-- The sign, the seconds, the point and nine digits.
use Rattle.std.proofs.Common.{refl}
use Rattle.wirebase.proofs.Sinks.{puts_four}
unfoldable use Rattle.dump_captures.specs.Moments.{span_text}
use Rattle.dump_captures.proofs.when.SpanText.put_into.Goals as goal

pub returns : goal.returns
unfolding span_text
returns g c =
    puts_four g.S.Sink.took _ _ _ _ _ _ _ _ _ _ c.put.result (rw c.sign.ensures at c.in_ok-put_str.ensures)
    c.in_ok-put_number.ensures c.in_ok-put_str-2.ensures
    (rw (c.nine_digits-nanoseconds.ensures, c.from.ensures) at c.put.ensures) refl
