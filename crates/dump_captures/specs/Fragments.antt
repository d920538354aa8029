-- What becomes of a fragment: its datagram lacks others, it is refused, or its datagram is whole.
use Rattle.std.specs.Prelude.{◌≡◌, ◌==◌, ℕ, Option, None, if◌then◌else◌, false}
use Rattle.capture.specs.Packet.{PacketValue}
use Rattle.frame_wire.specs.Datagram.{DatagramValue}
use Rattle.frame_wire.specs.DatagramJoined.{IsJoined, RefusesJoined}
use Rattle.frame_wire.specs.declared.datagram.Refusal.{Refusal as DatagramRefusal}
use Rattle.packet_fields.specs.Ports.{ports_in}
use Rattle.reassembly.specs.Fragment.{FragmentValue}
use Rattle.reassembly.specs.Partial.{WholeValue}
use Rattle.dump_captures.specs.Path.{PathValue}
use Rattle.dump_captures.specs.Place.{IsFollowed, LeadsTo, Stays, StepValue}
use Rattle.dump_captures.specs.Sight.{FindingValue, SightValue, IsEndSight, IsWhole, counted_as, fragment, seen, told}
use Rattle.dump_captures.specs.declared.kind.Reason.TheVariants as reason
use Rattle.dump_captures.specs.declared.ports.Ports.{Ports}
use Rattle.dump_captures.specs.declared.refusal.Refusal.{Refusal}
use Rattle.dump_captures.specs.declared.refusal.Refusal.TheVariants as refusal

-- the ports in a fragment, which only the first one of a datagram begins with
abbrev pub first_ports : FragmentValue → Option (ℕ × ℕ)
first_ports f = if f.frag_offset == 0 then ports_in f.protocol f.payload else None

-- a fragment that is refused: what its headers tell
abbrev pub refused_fragment : Ports → PathValue → FragmentValue → Refusal → SightValue
refused_fragment given path f r = told given path f.addresses f.protocol (first_ports f) reason.Fragment r

-- in a datagram that was put together no fragment is put together with others
abbrev pub unless_fragment : Ports → FindingValue → SightValue
unless_fragment given (seen s) = s
unless_fragment given (fragment path f) = refused_fragment given path f refusal.Nested

-- the way to a datagram that was put together
abbrev pub joined_path : PathValue → WholeValue → PathValue
joined_path path w = record path { frames = w.numbers }

-- What a datagram that was put together tells: as one that came whole, with the tunnels in it; but the checksums of its
-- fragments' IPv4 headers are not looked at.
pub data IsWithin (given : Ports) (p : PacketValue) (path : PathValue) (d : DatagramValue) (s : SightValue)
    : Type 0 where
  stays : Stays path d → IsWhole given path false d s → IsWithin given p path d s
  follows : (t e : StepValue) (inner : FindingValue) → IsFollowed path d t → LeadsTo t e → IsEndSight given p e inner
      → s ≡ unless_fragment given inner → IsWithin given p path d s

-- with the hop-by-hop options before its fragment at offset 0
abbrev pub with_options : DatagramValue → WholeValue → DatagramValue
with_options d w = record d { hop_by_hop = w.hop_by_hop }

-- The extension headers that its payload begins with may be torn.
pub data IsJoinedSight (given : Ports) (p : PacketValue) (path : PathValue) (w : WholeValue) (s : SightValue)
    : Type 0 where
  joined : (d : DatagramValue) → IsJoined w.addresses w.protocol w.payload d
      → IsWithin given p path (with_options d w) s → IsJoinedSight given p path w s
  torn : (r : DatagramRefusal) → RefusesJoined w.addresses w.protocol w.payload r
      → s ≡ told given path w.addresses w.protocol None (counted_as p (refusal.Datagram r)) (refusal.Datagram r)
      → IsJoinedSight given p path w s
