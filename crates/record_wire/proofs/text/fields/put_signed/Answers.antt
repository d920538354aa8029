-- The fields, one after another.
use Rattle.record_wire.proofs.Puts.{puts_last, puts_before}
use Rattle.record_wire.proofs.text.fields.put_signed.Goals as goal

pub returns : goal.returns
returns g c =
    let s = c.args.signature.now in
    puts_last _ _ _ c.in_ok-put_type.ensures.calls
    (puts_last _ _ _ c.in_ok-put_str.ensures.calls
    (puts_before s.algorithm _ _ _ (rw c.from.ensures at c.in_ok-put_before.ensures.calls)
    (puts_before s.labels _ _ _ (rw c.from-2.ensures at c.in_ok-put_before-2.ensures.calls)
    (puts_before s.original_ttl _ _ _ c.in_ok-put_before-3.ensures.calls
    (puts_before s.expiration _ _ _ c.in_ok-put_before-4.ensures.calls
    (puts_before s.inception _ _ _ c.in_ok-put_before-5.ensures.calls (rw c.from-3.ensures at
    c.put_number.ensures)))))))
