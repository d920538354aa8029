-- A packet that is not read has no value.
use Rattle.listing.proofs.Printing.{refused_on_ok}
use Rattle.listing.proofs.dhcp.show_dhcp.Goals as goal

pub returns-in_default : goal.returns-in_default
returns-in_default g c =
    refused_on_ok _ _ _ _ (rw c.new_unchecked.ensures at c.in_default.ensures.complete) c.line.ensures
