-- A prefix, or none.
use Rattle.listing.proofs.ndisc.show_prefix_info.Goals as goal

pub returns-in-Some : goal.returns-in-Some
returns-in-Some g c = rw c.in-Some.is c.show_prefix.ensures

pub returns-in-None : goal.returns-in-None
returns-in-None g c = rw c.in-None.is c.field.ensures
