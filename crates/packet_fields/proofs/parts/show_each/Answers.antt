-- Each turn prints the first of the parts that are left.
use Rattle.std.proofs.Common.{◌++◌, ◌∷◌, ◌∙◌, [], ap, append_assoc, arith, sym}
use Rattle.std.specs.Prelude.{map}
use Rattle.packet_fields.proofs.EntryChains.{none_no_more, one_more}
use Rattle.packet_fields.proofs.PartsInTurn.{first_part}
use Rattle.packet_fields.proofs.parts.show_each.Goals as goal

pub loop-left-preserved : goal.loop-left-preserved
loop-left-preserved g c =
    let (done, is, first, printed) = c.loop-left.invariant in
    let one = g.P.Part.entry_of c.split_at.result.0.now ∷ [] in
    let some = c.len_of.ensures.some in
    let within = c.len_of.ensures.within in
    let cut = first_part g.P.Part.part_len c.loop-left.left c.loop-left.rest.now c.split_at.result.0.now
    c.split_at.result.1.now c.loop-left-test.true (omega arith) (rw c.len_of.ensures.value at c.split_at.ensures.front)
    (rw c.len_of.ensures.value at c.split_at.ensures.back) in (
      done ++ one,
      append_assoc done one _ ∙ ap (λ more. done ++ more) (sym (ap (map g.P.Part.entry_of) cut)) ∙ is,
      none_no_more done _,
      one_more _ _ _ _ done _ printed (rw first at c.in_ok-show.ensures),
    )
