-- The listing tells it.
use Rattle.dump_captures.proofs.Printing.{if_ok}
use Rattle.dump_captures.proofs.printed.reason_alone.Goals as goal

pub returns : goal.returns
returns c = if_ok _ _ c.show_listing.result (λ why listed. (listed.0, listed.1)) c.show_listing.ensures
