-- Each turn prints one message more.
use Rattle.dump_captures.proofs.MessageTexts.{printed-end, printed-init, printed-more}
use Rattle.dump_captures.proofs.packets.show_segment.Goals as goal

pub loop-message-init : goal.loop-message-init
loop-message-init g c = rw c.messages-messages.ensures (printed-init _ _ _ _ _ _)

pub loop-message-preserved : goal.loop-message-preserved
loop-message-preserved g c =
    rw c.joined_outcome-outcome.ensures
    (printed-more _ _ _ _ _ _ _ _ _ _ _ _ _ _ _ c.loop-message.invariant c.in-Some.ensures.steps
    (rw c.headers-headers.ensures at c.in_ok-own.ensures))

pub returns : goal.returns
returns g c = printed-end _ _ _ _ _ _ _ _ _ _ c.loop-message.invariant c.in_default.ensures.steps.0
