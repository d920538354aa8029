-- The link is not read, or its header is not there, or it is.
use Rattle.std.proofs.Common.{◌∙◌, ap, sym}
use Rattle.dump_captures.specs.Sight.{no_frame, framed, seen}
use Rattle.dump_captures.proofs.sight.look.Goals as goal

pub returns-in-Ok : goal.returns-in-Ok
returns-in-Ok c =
    framed c.in-Some.link _ (sym c.of.ensures ∙ c.in-Some.is) c.in-Ok.ensures.sound c.look_into.ensures

pub returns-in-Err : goal.returns-in-Err
returns-in-Err c =
    no_frame c.in-Some.link c.in-Err.refusal (sym c.of.ensures ∙ c.in-Some.is)
    (λ f is. c.in-Err.ensures.complete f is) c.in-Err.ensures.told
    (ap seen (rw (c.reason-reason.ensures, c.is_cut.ensures) at c.untold.ensures))
