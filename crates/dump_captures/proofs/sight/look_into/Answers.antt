-- The frame is of another network, or leads to a datagram.
use Rattle.std.proofs.Common.{◌∙◌, ap, sym}
use Rattle.dump_captures.specs.Place.{step_of}
use Rattle.dump_captures.specs.Sight.{other, other_network, seen, tunnels_end}
use Rattle.dump_captures.proofs.sight.look_into.Goals as goal

pub returns-in-Other : goal.returns-in-Other
returns-in-Other c =
    other_network c.in-Other.number (sym c.packet_in.ensures ∙ ap step_of c.in-Other.is)
    (ap (λ category. seen (other category)) c.network_category.ensures)

pub returns-in-Datagram : goal.returns-in-Datagram
returns-in-Datagram c =
    tunnels_end _ _ (sym c.packet_in.ensures ∙ ap step_of c.in-Datagram.is) c.follow.ensures c.look_at_end.ensures
