-- A whole datagram, a fragment, or one that is refused.
use Rattle.std.proofs.Common.{refl}
use Rattle.dump_captures.specs.Sight.{fragment6, refused6, whole6}
use Rattle.dump_captures.proofs.sight.look_at_v6.Goals as goal

pub returns-in-Ok : goal.returns-in-Ok
returns-in-Ok c = whole6 _ _ c.in-Ok.ensures.sound c.whole.ensures refl

pub returns-in-Some : goal.returns-in-Some
returns-in-Some c = fragment6 _ c.in-Some.ensures.sound refl

pub returns : goal.returns
returns c =
    refused6 c.in-Err.refusal _ c.in-Err.ensures.refuses (c.in_default.ensures.complete refl)
    (rw (c.reason-reason.ensures, c.is_cut.ensures) at c.refused_v6.ensures) refl
