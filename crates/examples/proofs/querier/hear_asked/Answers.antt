use Rattle.std.proofs.Common.{◌∙◌, sym}
use Rattle.std.proofs.lemmas.Bool.{false≢true}
use Rattle.examples.proofs.querier.hear_asked.Goals as goal

pub returns-else-is_empty : goal.returns-else-is_empty
returns-else-is_empty g c = record {
  suppressed = λ is. absurd (false≢true (sym c.if-s_flag.false ∙ is));
  group_is = λ is none. absurd (false≢true (sym c.if-is_empty.false ∙ c.is_empty.ensures.1 none));
  sources_are = λ is some. c.hear_sources.ensures;
}
