-- Options are passed, up to one that is no other.
use Rattle.frame_wire.proofs.Words.{refl}
use Rattle.frame_wire.proofs.Jumbograms.{jumbo_so_far-more, jumbo_found, jumbo_none}
use Rattle.frame_wire.proofs.datagram.jumbogram.jumbo_in.Goals as goal

pub options-preserved : goal.options-preserved
options-preserved c =
    jumbo_so_far-more _ _ _ _ c.options.invariant c.in-Some.ensures.ends c.behind-rest.ensures

pub returns-clause-found : goal.returns-clause-found
returns-clause-found c = jumbo_found _ _ _ c.options.invariant c.jumbo_at.ensures.found

pub returns-clause-none : goal.returns-clause-none
returns-clause-none c =
    λ none. jumbo_none _ _ c.options.invariant (c.in_default.ensures.none refl) (c.jumbo_at.ensures.none none)
