use Rattle.record_wire.proofs.Words.{refl}
use Rattle.wirebase.proofs.Sinks.{puts_three}
use Rattle.record_wire.proofs.name.refusal.NameRefusal.put.Goals as goal

pub returns-in_ok-put_number-in-Pointer : goal.returns-in_ok-put_number-in-Pointer
returns-in_ok-put_number-in-Pointer g c =
    rw c.in-Pointer.is
    (puts_three g.S.Sink.took _ _ _ _ _ _ _ _ c.put_str-in-Pointer.result c.in_ok-put_str-in-Pointer.ensures
    c.in_ok-put_number-in-Pointer.ensures c.put_str-in-Pointer.ensures refl)
