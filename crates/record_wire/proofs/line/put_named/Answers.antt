use Rattle.record_wire.proofs.Words.{[], refl}
use Rattle.wirebase.proofs.Sinks.{put_none}
use Rattle.record_wire.proofs.Lines.{no_names}
use Rattle.record_wire.proofs.Puts.{◌then◌}
use Rattle.record_wire.proofs.line.put_named.Goals as goal

pub returns-in-Err : goal.returns-in-Err
returns-in-Err g c =
    ([], (no_names _ _ (c.in-Err.ensures.reads_not refl), c.in-Err.ensures.told, refl), put_none g.S.Sink.took _)

pub returns : goal.returns
returns g c = (
  _,
  (_, c.in_default.ensures.reads, refl),
  c.in_ok-put_front.ensures.calls then c.in_ok-put_numbers.ensures.calls then c.in_ok-put.ensures.calls,
)
