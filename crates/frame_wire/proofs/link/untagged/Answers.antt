-- Tags are passed, one after another.
use Rattle.frame_wire.proofs.Words.{◌∙◌, IsTagged, ap, big_number, subst, sym, take}
use Rattle.frame_wire.proofs.Tags.{so_far-more, so_far-last, cut_none, cut_here, part-behind, told, told_not}
use Rattle.frame_wire.proofs.link.untagged.Goals as goal

pub returns-then-octets-end-lt4-clause-complete : goal.returns-then-octets-end-lt4-clause-complete
returns-then-octets-end-lt4-clause-complete c v is =
    cut_none _ _ _ _ c.tags.invariant (told _ c.is_tag.ensures c.tags-test.true) c.if-octets-end-lt4.true _ _ _ is

pub returns-then-octets-end-lt4-clause-cut : goal.returns-then-octets-end-lt4-clause-cut
returns-then-octets-end-lt4-clause-cut c =
    cut_here _ _ _ _ c.tags.invariant (told _ c.is_tag.ensures c.tags-test.true) c.if-octets-end-lt4.true

pub tags-preserved : goal.tags-preserved
tags-preserved c =
    so_far-more _ _ _ _ _ c.tags.invariant (told _ c.is_tag.ensures c.tags-test.true) c.if-octets-end-lt4.false
    (c.u16_at-last.ensures ∙ ap (big_number 2) (part-behind c.args.octets.now c.tags.end))

pub returns-clause-sound : goal.returns-clause-sound
returns-clause-sound c =
    subst (λ l. IsTagged c.args.kind c.args.octets.now (take c.tags.end c.args.octets.now) c.tags.last l)
    (sym c.behind.ensures)
    (so_far-last _ _ _ _ c.tags.invariant (told_not _ c.is_tag.ensures c.tags-test.false))
