-- What messages say is counted.
use Rattle.std.proofs.Common.{◌≡◌, Err, List, Ok, OnErr, OnOk, Option, Result, subst, ℕ}
use Rattle.frame_wire.specs.UdpCaptured.{CapturedValue, IsCaptured}
use Rattle.packet_stats.specs.Message.{ServiceSays, UdpBreaks, UdpSays, opened}
use Rattle.packet_stats.specs.Stats.{CountsPart, CountsThat, State}
use Rattle.packet_stats.specs.Subject.{source_in}
use Rattle.packet_stats.specs.Types.{Addresses, Fault, IpAddress, Service}

-- what a datagram says
pub datagram_counted : (r : Result (Unit {0}) Fault) (service : Service) (between : Addresses) (after : Option ℕ)
    (bytes : List ℕ) (c : CapturedValue) (old new : State) (source : IpAddress) → source ≡ source_in between
    → IsCaptured bytes c → OnOk r (CountsThat (ServiceSays service source after c.payload) old new)
    → OnOk r (CountsThat (UdpSays service between after bytes) old new)
datagram_counted (Ok u) service between after bytes c old new source from is (ms, says, counted) =
    (ms, opened c is (subst (λ s. ServiceSays service s after c.payload ms) from says), counted)
datagram_counted (Err fault) service between after bytes c old new source from is counted = tt

pub datagram_broken : (r : Result (Unit {0}) Fault) (service : Service) (between : Addresses) (after : Option ℕ)
    (bytes : List ℕ) (c : CapturedValue) (old new : State) (source : IpAddress) → source ≡ source_in between
    → IsCaptured bytes c → OnErr r (CountsPart (ServiceSays service source after c.payload) old new)
    → OnErr r (UdpBreaks service between after bytes old new)
datagram_broken (Ok u) service between after bytes c old new source from is part = tt
datagram_broken (Err fault) service between after bytes c old new source from is part = record {
  c = c;
  is = is;
  breaks = subst (λ s. CountsPart (ServiceSays service s after c.payload) old new) from part;
}
