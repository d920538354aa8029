-- The first option, and the others, each after a comma.
use Rattle.std.proofs.Common.{OnOk, sym, subst}
use Rattle.record_wire.specs.Edns.{option_of}
use Rattle.packet_fields.specs.Fields.{leaf_text, texts}
use Rattle.packet_fields.specs.Output.{Gains}
use Rattle.dns_fields.specs.Edns.{option_text, option_texts}
use Rattle.dns_fields.proofs.TextLists.{texts_printed}
use Rattle.dns_fields.proofs.edns.put_options.Goals as goal

pub returns : goal.returns
returns g c =
    let gives = rw c.in-Some-Ok.field-0-is at c.in-Some-Ok.ensures.steps in
    subst (λ answers. OnOk c.put_closing.result (Gains (g.W.Write.contents c.args.output.now)
    (g.W.Write.contents c.put_closing.new.output) (leaf_text c.args.form (texts (option_texts answers))))) (sym gives)
    (texts_printed c.args.form (option_text (option_of c.in-Some-Ok.first)) (option_texts c.next.new.self) _ _ _ _ _
    c.put_closing.result c.in_ok-put_opening.ensures c.in_ok-put_text.ensures c.in_ok-put_others.ensures
    c.put_closing.ensures)
