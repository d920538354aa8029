use Rattle.std.proofs.Common.{◌≡◌, List, ◌∷◌, ℕ, take, rules, sym, ap, ◌∙◌}
use Rattle.group_wire.specs.Family.{width}
use Rattle.group_wire.specs.Sources.{sources_in}
use Rattle.group_wire.proofs.SourcesAhead.{no_source_ahead, source_ahead}
use Rattle.wirebase.proofs.Answers.{first_off}
use Rattle.group_wire.proofs.sources.SourcesIteratorIterator.next.Goals as goal

pub returns-then-self-width-clause-steps : goal.returns-then-self-width-clause-steps
returns-then-self-width-clause-steps g c =
    let f = g.A.Address.family in
    let ended = sym c.self.view_is
    ∙ no_source_ahead f c.width-width.result c.self.inside.rest.now c.width-width.ensures c.if-self-width.true in
    (ended, ended)

pub returns-clause-steps : goal.returns-clause-steps
returns-clause-steps g c =
    let f = g.A.Address.family in
    let w = c.width-width.result in
    let it = c.self.inside in
    let octets : g.A.Address.bytes c.read.result ≡ take w it.rest.now = search rules in
    sym c.self.view_is
    ∙ source_ahead f w it.rest.now c.split_at.result.1.now c.width-width.ensures c.if-self-width.false
    c.split_at.ensures.back
    ∙ ap (λ (first : List ℕ). first ∷ sources_in (width f) c.split_at.result.1.now) (sym octets)

pub returns-clause-goes : goal.returns-clause-goes
returns-clause-goes g c = first_off _ _ _ _ (returns-clause-steps g c)
