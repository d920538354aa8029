-- The addresses after the first so far, with a comma before each.
use Rattle.listing.proofs.Words.{Gains, take}
use Rattle.std.specs.Prelude.{flat_map}
use Rattle.listing.proofs.Addresses.{with_comma}
use Rattle.listing.proofs.dhcp.RefSliceIpv4AddressValue.write_to.Given as goal

abbrev pub invariant-loop-address : goal.invariant-loop-address
invariant-loop-address g l =
    Gains (g.W.Write.contents l.initial.output) (g.W.Write.contents l.output)
    (flat_map with_comma (take l.address-index l.rest))
