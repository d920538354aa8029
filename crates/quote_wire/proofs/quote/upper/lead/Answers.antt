-- Headers are passed, one after another.
use Rattle.std.proofs.Common.{None, refl, rules}
use Rattle.quote_wire.specs.Upper.{IsPassed, here, none}
use Rattle.quote_wire.proofs.Headers.{so_far-more}
use Rattle.quote_wire.proofs.quote.upper.lead.Goals as goal

pub returns-in_default : goal.returns-in_default
returns-in_default c = c.headers.invariant.leads None (none (c.in_default.ensures.none refl) refl)

pub headers-preserved : goal.headers-preserved
headers-preserved c =
    so_far-more _ _ _ _ _ _ _ c.headers.invariant c.in-Some.ensures.ends c.from-protocol.ensures.value
    c.behind-rest.ensures

pub returns : goal.returns
returns c =
    let other : IsPassed c.headers.protocol → ⊥ = search rules in
    c.headers.invariant.leads _ (here other refl)
