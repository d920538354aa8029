-- The record, or nothing.
use Rattle.message_brief.specs.Dns.{reads, reads_not}
use Rattle.message_brief.proofs.dns.found.told_by_zone.Goals as goal

pub returns-in-Ok : goal.returns-in-Ok
returns-in-Ok c = reads _ c.in-Ok.ensures.sound

pub returns-in-Err : goal.returns-in-Err
returns-in-Err c = reads_not (λ value read. c.in-Err.ensures.complete value read)
