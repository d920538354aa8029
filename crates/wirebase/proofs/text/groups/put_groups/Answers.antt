-- The last colon is left out.
use Rattle.wirebase.proofs.Words.{◌∙◌, arith, sym, take}
use Rattle.wirebase.proofs.Rooms.{groups_end}
use Rattle.wirebase.proofs.text.groups.put_groups.Goals as goal

pub returns-else-is_empty-clause-text : goal.returns-else-is_empty-clause-text
returns-else-is_empty-clause-text c =
    groups_end c.loop-group.room (take c.args.at c.args.room.now) c.args.groups.now c.loop-group.end
    c.loop-group.group-index (omega arith) (sym c.is_empty.ensures ∙ c.if-is_empty.false) (omega arith)
    c.loop-group.invariant.text
