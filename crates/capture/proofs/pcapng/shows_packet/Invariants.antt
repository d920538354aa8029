-- The blocks that are left show the next packet where all show it.
use Rattle.std.proofs.Common.{◌↔◌, length}
use Rattle.capture.specs.Pcapng.{ShowsPacket}
use Rattle.capture.proofs.pcapng.shows_packet.Given as goal

abbrev pub invariant-blocks-2 : goal.invariant-blocks-2
invariant-blocks-2 l = ShowsPacket l.order l.rest ↔ ShowsPacket l.fn.section l.fn.octets

abbrev pub decreases-blocks-2 : goal.decreases-blocks-2
decreases-blocks-2 l = length l.rest
