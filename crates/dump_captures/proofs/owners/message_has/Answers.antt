-- A message, or too few octets for one.
use Rattle.std.proofs.Common.{refl}
use Rattle.dump_captures.specs.Owners.{has_header, has_no_header}
use Rattle.dump_captures.proofs.owners.message_has.Goals as goal

pub returns-in-Ok : goal.returns-in-Ok
returns-in-Ok c =
    has_header _ (c.in-Ok.ensures.accepts.0 refl) (rw c.in-Ok.ensures.buffer at c.has_owner.ensures)

pub returns-in-Err : goal.returns-in-Err
returns-in-Err c = has_no_header (λ reaches. cc (c.in-Err.ensures.accepts.1 reaches))
