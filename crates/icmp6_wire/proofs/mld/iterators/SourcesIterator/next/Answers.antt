use Rattle.std.proofs.Common.{◌≡◌, List, ◌∷◌, ℕ, take, rules, sym, ap, ◌∙◌}
use Rattle.icmp6_wire.specs.Words.{octets_of}
use Rattle.icmp6_wire.specs.private.MldIterators.{sources_in}
use Rattle.icmp6_wire.proofs.MldIterators.{no_source_ahead, source_ahead}
use Rattle.wirebase.proofs.Answers.{first_off}
use Rattle.icmp6_wire.proofs.mld.iterators.SourcesIterator.next.Goals as goal

pub returns-then-self-lt-ADDRESS_LEN-clause-steps : goal.returns-then-self-lt-ADDRESS_LEN-clause-steps
returns-then-self-lt-ADDRESS_LEN-clause-steps c =
    let it = c.self.inside in
    let ended = sym c.self.view_is ∙ no_source_ahead it.rest.now c.if-self-lt-ADDRESS_LEN.true in
    (ended, ended)

pub returns-clause-steps : goal.returns-clause-steps
returns-clause-steps c =
    let it = c.self.inside in
    let octets : octets_of c.from_octets.result ≡ take 16 it.rest.now = search rules in
    sym c.self.view_is
    ∙ source_ahead it.rest.now c.split_at.result.1.now c.if-self-lt-ADDRESS_LEN.false c.split_at.ensures.back
    ∙ ap (λ (first : List ℕ). first ∷ sources_in c.split_at.result.1.now) (sym octets)

pub returns-clause-goes : goal.returns-clause-goes
returns-clause-goes c = first_off _ _ _ _ (returns-clause-steps c)
