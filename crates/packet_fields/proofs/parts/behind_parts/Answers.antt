-- Each turn leaves out the first of the parts that are left.
use Rattle.std.proofs.Common.{◌∙◌, arith, sym}
use Rattle.packet_fields.proofs.PartsInTurn.{behind_first}
use Rattle.packet_fields.proofs.parts.behind_parts.Goals as goal

pub loop-left-preserved : goal.loop-left-preserved
loop-left-preserved g c =
    let some = c.len_of.ensures.some in
    let within = c.len_of.ensures.within in
    let others = rw c.len_of.ensures.value at c.split_at.ensures.back in
    sym (behind_first g.P.Part.part_len c.loop-left.left c.loop-left.rest.now c.split_at.result.1.now
    c.loop-left-test.true (omega arith) others) ∙ c.loop-left.invariant
