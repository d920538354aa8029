use Rattle.record_wire.proofs.Words.{[], ap, refl}
use Rattle.wirebase.proofs.Sinks.{put_none}
use Rattle.record_wire.proofs.Puts.{◌then◌}
use Rattle.record_wire.proofs.line.put_fields.Goals as goal

pub returns-in_ok-put-in-Ok : goal.returns-in_ok-put-in-Ok
returns-in_ok-put-in-Ok g c =
    let message = ap (λ b. b.now) c.new_unchecked.ensures in (
      _,
      (_, (_, rw message at c.in-Ok.ensures.sound, refl), refl),
      c.in_ok-put_front-in-Ok.ensures.calls then c.in_ok-put-in-Ok.ensures.calls,
    )

pub returns-in-Err : goal.returns-in-Err
returns-in-Err g c =
    let message = ap (λ b. b.now) c.new_unchecked.ensures in (
      [],
      (
        (λ value (read, is, e). c.in-Err.ensures.complete read (rw message is)),
        rw message at c.in-Err.ensures.told,
        refl,
      ),
      put_none g.S.Sink.took _,
    )
