use Rattle.record_wire.proofs.Words.{[], inl, inr, refl}
use Rattle.wirebase.proofs.Sinks.{put_none}
use Rattle.record_wire.proofs.Lines.{no_names, authority_put, no_authority}
use Rattle.record_wire.proofs.Puts.{◌then◌}
use Rattle.record_wire.proofs.line.put_authority.Goals as goal

pub returns-in-Err : goal.returns-in-Err
returns-in-Err g c = (
  [],
  no_authority [] _ _ c.in-Err.refusal
      (λ read is. no_names _ _ (c.in-Err.ensures.reads_not refl) read.primary is.primary_is)
      (inl c.in-Err.ensures.told),
  put_none g.S.Sink.took _,
)

pub returns-in-Err-read : goal.returns-in-Err-read
returns-in-Err-read g c =
    let first = c.in_default.ensures.reads in (
      [],
      no_authority [] _ _ c.in-Err-read.refusal
          (λ read is. no_names _ _ (c.in-Err-read.ensures.reads_not refl) read.mailbox is.mailbox_is)
          (inr ((first.labels, first.names), c.in-Err-read.ensures.told)),
      put_none g.S.Sink.took _,
    )

pub returns : goal.returns
returns g c = (
  _,
  authority_put _ _ _ _ _ c.in_default.ensures.reads c.in_default-read.ensures.reads,
  c.in_ok-put_front.ensures.calls then (c.in_ok-put.ensures.calls then (c.in_ok-put_str.ensures.calls then
      (c.in_ok-put-2.ensures.calls
      then (c.in_ok-put_word.ensures.calls then (c.in_ok-put_word-2.ensures.calls then (c.in_ok-put_word-3.ensures.calls
      then (c.in_ok-put_word-4.ensures.calls then c.in_ok-put_word-5.ensures.calls))))))),
)
