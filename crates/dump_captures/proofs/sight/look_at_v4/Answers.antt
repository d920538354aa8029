-- A whole datagram, a fragment, or one that is refused.
use Rattle.std.proofs.Common.{refl}
use Rattle.dump_captures.specs.Sight.{fragment4, refused4, whole4}
use Rattle.dump_captures.proofs.sight.look_at_v4.Goals as goal

pub returns-in-Ok : goal.returns-in-Ok
returns-in-Ok c = whole4 _ c.is_header_bad-is_bad.result _ c.in-Ok.ensures.sound c.is_header_bad-is_bad.ensures
    c.whole.ensures refl

pub returns-in-Some : goal.returns-in-Some
returns-in-Some c = fragment4 _ c.in-Some.ensures.sound refl

pub returns : goal.returns
returns c =
    refused4 c.in-Err.refusal _ c.in-Err.ensures.refuses (c.in_default.ensures.complete refl)
    (rw (c.reason-reason.ensures, c.is_cut.ensures) at c.refused_v4.ensures) refl
