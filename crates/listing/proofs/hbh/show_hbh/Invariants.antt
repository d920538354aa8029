-- The lines of the options so far.
use Rattle.listing.proofs.Words.{Gains, map, take}
use Rattle.opt_wire.specs.Ipv6Option.{value_of}
use Rattle.listing.specs.ListingHbh.{options_listing}
use Rattle.listing.proofs.hbh.show_hbh.Given as goal

abbrev pub invariant-loop-option : goal.invariant-loop-option
invariant-loop-option g l =
    Gains (g.W.Write.contents l.initial.output) (g.W.Write.contents l.output)
    (options_listing (map value_of (take l.option-index l.option-items)))
