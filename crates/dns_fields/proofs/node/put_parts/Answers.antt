-- The first entry, and the others, each after a comma; or none.
use Rattle.std.proofs.Common.{◌∙◌, OnOk, ap, arith, drop, subst, sym, take}
use Rattle.packet_fields.specs.Fields.{leaf_text, texts}
use Rattle.packet_fields.specs.Output.{Gains}
use Rattle.dns_fields.proofs.NodeTexts.{texts_more}
use Rattle.dns_fields.proofs.TextLists.{texts_printed}
use Rattle.dns_fields.proofs.node.put_parts.Goals as goal

pub returns : goal.returns
returns g c =
    let octets = c.args.octets.now in
    let more = texts_more c.args.part octets (omega (arith, c.width-width.ensures)) in
    let first = c.split_at.ensures.front ∙ ap (λ n. take n octets) c.width-width.ensures in
    let rest = c.split_at.ensures.back ∙ ap (λ n. drop n octets) c.width-width.ensures in
    subst (λ ts. OnOk c.put_closing.result (Gains (g.W.Write.contents c.args.output.now)
    (g.W.Write.contents c.put_closing.new.output) (leaf_text c.args.form (texts ts)))) (sym more)
    (texts_printed c.args.form _ _ _ _ _ _ _ c.put_closing.result c.in_ok-put_opening.ensures
    (rw first at c.in_ok-put_text.ensures) (rw rest at c.in_ok-put_others.ensures) c.put_closing.ensures)
