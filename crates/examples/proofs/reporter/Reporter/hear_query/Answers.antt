use Rattle.std.proofs.Common.{◌∙◌, Option, ap, refl, subst, sym}
use Rattle.std.proofs.lemmas.Bool.{false≢true}
use Rattle.std.specs.List.{find}
use Rattle.group_wire.specs.Sources.{octets_in}
use Rattle.examples.specs.Reported.{is_group}
use Rattle.examples.specs.Reporter.{AsksSources}
use Rattle.examples.specs.declared.reporter.reported.Reported.{Reported}
use Rattle.examples.proofs.reporter.Reporter.hear_query.Goals as goal

pub returns-then-is_unspecified : goal.returns-then-is_unspecified
returns-then-is_unspecified g c = record {
  all = λ zero. rw (c.answer.ensures, c.new-self.ensures) refl;
  one = λ other. absurd (other (c.is_unspecified.ensures.0 c.if-is_unspecified.true));
  sources = λ other. absurd (other (c.is_unspecified.ensures.0 c.if-is_unspecified.true));
}

pub returns-else-is_unspecified : goal.returns-else-is_unspecified
returns-else-is_unspecified g c =
    let eq = g.A.PartialEq.eq in
    let known = c.look_up-entry.ensures ∙ ap (find (is_group eq c.args.group.now)) c.as_slice.ensures.value in
    record {
      all = λ zero. absurd (false≢true (sym c.if-is_unspecified.false ∙ c.is_unspecified.ensures.1 zero));
      one = λ other. rw c.answer-else-is_unspecified.ensures refl;
      sources = λ other. subst (λ (entry : Option (Reported g.row.A.Denot)). AsksSources eq g.A.Address.bytes
          g.A.Address.family c.args.group.now (octets_in c.args.sources) entry c.args.self.now.asked.items
          c.ask.new.asked.items) known c.ask.ensures;
    }
