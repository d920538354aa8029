-- Each turn prints a comma and one entry more.
use Rattle.std.proofs.Common.{◌∙◌, ◌++◌, ap, append_assoc, arith, drop, sym, take}
use Rattle.packet_fields.proofs.Printing.{◌then◌, gained}
use Rattle.dns_fields.specs.private.Parts.{behind_commas}
use Rattle.dns_fields.proofs.NodeTexts.{texts_more}
use Rattle.dns_fields.proofs.node.put_others.Goals as goal

pub loop-left-preserved : goal.loop-left-preserved
loop-left-preserved g c =
    let (done, is, gains) = c.loop-left.invariant in
    let left = c.loop-left.left.now in
    let more = texts_more c.args.part left (omega (arith, c.width-width.ensures)) in
    let next = c.split_at.ensures.front ∙ ap (λ n. take n left) c.width-width.ensures in
    let rest = c.split_at.ensures.back ∙ ap (λ n. drop n left) c.width-width.ensures in
    rw rest (
      _,
      append_assoc done _ _ ∙ ap (λ more. done ++ more) (sym (ap (λ ts. behind_commas c.args.form ts) more)) ∙ is,
      gains then (gained _ _ _ c.in_ok-write_all.ensures.bytes then (rw next at c.in_ok-put_text.ensures)),
    )
