use Rattle.record_wire.proofs.Words.{◌%◌}
use Rattle.std.proofs.Common.{ne_eqb}
use Rattle.record_wire.specs.ZoneText.{word}
use Rattle.record_wire.proofs.Puts.{puts_last}
use Rattle.record_wire.proofs.text.fields.put_bit.Goals as goal

pub returns : goal.returns
unfolding word
returns g c =
    rw (ne_eqb (c.args.bits % 2) 0 c.if-bits-eq0.false)
    (puts_last _ _ _ c.in_ok-put_str.ensures.calls (rw c.from.ensures.value at c.put_type.ensures))
