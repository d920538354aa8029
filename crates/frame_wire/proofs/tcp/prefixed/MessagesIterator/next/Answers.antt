-- The message at the start is given.
use Rattle.frame_wire.proofs.Words.{◌∙◌, sym}
use Rattle.frame_wire.proofs.Messages.{message-progress, messages-first}
use Rattle.frame_wire.proofs.tcp.prefixed.MessagesIterator.next.Goals as goal

pub returns-clause-steps : goal.returns-clause-steps
returns-clause-steps c =
    sym c.self.view_is ∙ messages-first c.self.inside.left.now _ c.in_ok-message.rest.now c.in_ok-message.ensures.some

pub returns-clause-goes : goal.returns-clause-goes
returns-clause-goes c = message-progress _ _ _ (returns-clause-steps c)
