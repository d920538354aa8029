-- Nothing is kept, and the fragments of a datagram come in any order.
use Rattle.std.proofs.Common.{ap, map, subst, sym}
use Rattle.reassembly.specs.Bounds.{IsWithinBounds}
use Rattle.reassembly.specs.Partial.{partial_of}
use Rattle.reassembly.proofs.Bounds.{none_within}
use Rattle.reassembly.proofs.Orders.{any_order}
use Rattle.reassembly.proofs.reassembly.Reassembly.new.Goals as goal

pub returns-clause-bounds : goal.returns-clause-bounds
returns-clause-bounds c = subst IsWithinBounds (sym (ap (map partial_of) c.new.ensures.items)) none_within

pub returns-clause-any_order : goal.returns-clause-any_order
returns-clause-any_order c = any_order
