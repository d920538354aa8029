-- The bits, one after another.
use Rattle.record_wire.proofs.Words.{byte_text}
use Rattle.record_wire.proofs.Puts.{puts_last}
use Rattle.record_wire.proofs.text.fields.put_byte.Goals as goal

pub returns : goal.returns
unfolding byte_text
returns g c =
    puts_last _ _ _ c.in_ok-put_bit.ensures.calls
    (puts_last _ _ _ c.in_ok-put_bit-2.ensures.calls
    (puts_last _ _ _ c.in_ok-put_bit-3.ensures.calls
    (puts_last _ _ _ c.in_ok-put_bit-4.ensures.calls
    (puts_last _ _ _ c.in_ok-put_bit-5.ensures.calls
    (puts_last _ _ _ c.in_ok-put_bit-6.ensures.calls
    (puts_last _ _ _ c.in_ok-put_bit-7.ensures.calls c.put_bit-8.ensures))))))
