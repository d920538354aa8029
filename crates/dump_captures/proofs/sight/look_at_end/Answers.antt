-- A datagram of IPv4 or IPv6, or a packet of another network.
use Rattle.std.proofs.Common.{ap, refl}
use Rattle.dump_captures.specs.Place.{step_of}
use Rattle.dump_captures.specs.Sight.{of_network, of_v4, of_v6}
use Rattle.dump_captures.proofs.sight.look_at_end.Goals as goal

pub returns-in-Other : goal.returns-in-Other
returns-in-Other c = of_network c.in-Other.number (ap step_of c.in-Other.is) refl

pub returns-in-V4 : goal.returns-in-V4
returns-in-V4 c = of_v4 _ (ap step_of c.in-Datagram.is) c.in-V4.is c.look_at_v4.ensures

pub returns-in-V6 : goal.returns-in-V6
returns-in-V6 c = of_v6 _ (ap step_of c.in-Datagram.is) c.in-V6.is c.look_at_v6.ensures
