use Rattle.record_wire.proofs.Words.{◌++◌, ◌∙◌, ap}
use Rattle.wirebase.proofs.Sinks.{displayed}
use Rattle.dns_wire.specs.DnsDisplay.{type_display}
use Rattle.record_wire.specs.Mnemonics.{class_text}
use Rattle.record_wire.specs.Name.{labels_of}
use Rattle.record_wire.specs.ZoneText.{word}
use Rattle.record_wire.proofs.Lines.{plain_asked}
use Rattle.record_wire.proofs.Puts.{puts_as}
use Rattle.record_wire.proofs.text.question.QuestionTextDisplay.fmt.Goals as goal

pub returns-clause-writes : goal.returns-clause-writes
returns-clause-writes g c =
    let q = c.args.self.now in
    displayed g.W.Write.write_str_gives _ _ _ _
    (puts_as _ _ _ _ _ _ (ap (λ n. n ++ (word (class_text q.class) ++ word (type_display q.type_))) c.of-name.ensures
    ∙ plain_asked (labels_of q.name) q.class q.type_) c.put_asked.ensures)
