-- The header of the tunnel is refused.
use Rattle.std.proofs.Common.{◌∙◌, sym}
use Rattle.dump_captures.specs.Place.{refused}
use Rattle.dump_captures.proofs.place.inside.Goals as goal

pub returns-in-Err-clause-stays : goal.returns-in-Err-clause-stays
returns-in-Err-clause-stays c none =
    refused c.in_ok-tunnel.tunnel c.in-Err.field-0 (sym c.of.ensures ∙ c.in_ok-tunnel.was) c.in-Err.ensures.told
