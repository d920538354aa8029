use Rattle.record_wire.proofs.Words.{record_of, subst, sym, view_octets}
use Rattle.record_wire.specs.RecordText.{IsRecordText}
use Rattle.record_wire.proofs.text.entry.read_record.Goals as goal

pub returns-in-Ok-clause-complete : goal.returns-in-Ok-clause-complete
returns-in-Ok-clause-complete c value (read, is, whole) =
    let of_class =
    subst (λ class. IsRecordText (view_octets c.args.packet.now) class (record_of c.args.«record».now) read)
    (sym c.record_class.ensures) is in
    let same = c.in-Ok.ensures.complete read of_class in
    cc (same, c.flushes_cache-flushes_cache.ensures, whole)

pub returns-in-Err-clause-complete : goal.returns-in-Err-clause-complete
returns-in-Err-clause-complete c value (read, is, whole) =
    c.in-Err.ensures.complete read
    (subst (λ class. IsRecordText (view_octets c.args.packet.now) class (record_of c.args.«record».now) read)
    (sym c.record_class.ensures) is)
