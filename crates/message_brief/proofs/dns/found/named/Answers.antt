-- The name, or none.
use Rattle.message_brief.specs.Dns.{has_name, has_no_name}
use Rattle.message_brief.proofs.dns.found.named.Goals as goal

pub returns-in-Ok : goal.returns-in-Ok
returns-in-Ok c = has_name _ c.in-Ok.ensures.sound

pub returns-in-Err : goal.returns-in-Err
returns-in-Err c = has_no_name (λ (labels, names). c.in-Err.ensures.complete labels names)
