-- The content decides.
use Rattle.std.proofs.Common.{ap, refl}
use Rattle.message_brief.specs.Messages.{CutBriefIs}
use Rattle.dump_captures.specs.Brief.{CutSays}
use Rattle.dump_captures.specs.Content.{content_of}
use Rattle.dump_captures.proofs.Printing.{gains_some}
use Rattle.dump_captures.proofs.brief.show_content.Goals as goal

pub show_whole-requires : goal.show_whole-requires
show_whole-requires g c = ap content_of c.in-Whole.is

pub returns-in-Whole : goal.returns-in-Whole
returns-in-Whole g c = rw c.in-Whole.is c.show_whole.ensures

pub returns-in_ok-show_kind-in-Cut : goal.returns-in_ok-show_kind-in-Cut
returns-in_ok-show_kind-in-Cut g c =
    rw c.in-Cut.is
    (gains_some (CutBriefIs _) (CutSays _ _) _ _ _ _ c.show_cut_brief.result
    (rw c.in-Cut.is at c.in_ok-show_kind-in-Cut.ensures) (λ body is. record { body = body; is = is; text_is = refl })
    c.show_cut_brief.ensures)
