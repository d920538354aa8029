-- The tag at the start is given.
use Rattle.frame_wire.proofs.Words.{◌∷◌, ◌∙◌, List, VlanTag, ℕ, ap, drop, sym, tags_in}
use Rattle.frame_wire.proofs.TagLists.{tags_short, tags_more, tag_progress}
use Rattle.frame_wire.proofs.link.vlans.VlanTagsIterator.next.Goals as goal

pub returns-then-self-lt-TAG_LEN-clause-steps : goal.returns-then-self-lt-TAG_LEN-clause-steps
returns-then-self-lt-TAG_LEN-clause-steps c =
    let ended = sym c.self.view_is ∙ tags_short c.self.inside.left.now c.if-self-lt-TAG_LEN.true in
    (ended, ended)

pub returns-clause-steps : goal.returns-clause-steps
returns-clause-steps c =
    let left = c.self.inside.left.now in
    sym c.self.view_is
    ∙ (tags_more left c.if-self-lt-TAG_LEN.false
    ∙ (ap (λ (tag : VlanTag). tag ∷ tags_in (drop 4 left)) (sym c.tag_of-tag.ensures)
    ∙ ap (λ (rest : List ℕ). c.tag_of-tag.result ∷ tags_in rest) (sym c.behind-self-inside.ensures)))

pub returns-clause-goes : goal.returns-clause-goes
returns-clause-goes c = tag_progress _ _ _ (returns-clause-steps c)
