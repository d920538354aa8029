-- The datagram that a frame leads to, through the tunnels that it is in.
use Rattle.std.specs.Prelude.{◌≡◌, ◌<◌, ◌≤◌, ℕ, List, None, Some, length}
use Rattle.frame_wire.specs.Captured.{CapturedValue, IsCaptured4, IsCaptured6, RefusesCaptured4, RefusesCaptured6}
use Rattle.frame_wire.specs.Datagram.{DatagramValue}
use Rattle.frame_wire.specs.Tunnel.{InnerValue, IsInner, Refuses, tunnel_of}
use Rattle.frame_wire.specs.declared.datagram.Refusal.{Refusal as DatagramRefusal}
use Rattle.frame_wire.specs.declared.link.Network.{Network}
use Rattle.frame_wire.specs.declared.link.Network.TheVariants as network
use Rattle.frame_wire.specs.declared.tunnel.Refusal.{Refusal as TunnelRefusal}
use Rattle.frame_wire.specs.declared.tunnel.Tunnel.{Tunnel}
use Rattle.dump_captures.specs.Path.{PathValue, passage, path_of, through}
use Rattle.dump_captures.specs.declared.place.Place.{Place}
use Rattle.dump_captures.specs.declared.place.Version.{Version}
use Rattle.dump_captures.specs.declared.place.Version.TheVariants.{V4, V6}
use Rattle.dump_captures.specs.declared.place.Step.{Step}
use Rattle.dump_captures.specs.declared.place.Step.TheVariants as step

-- where a datagram begins: the way to it, its version of IP, and the bytes from its header on
pub record PlaceValue : Type 0 where
  pub path : PathValue
  pub version : Version
  pub bytes : List ℕ

abbrev pub place_of : Place → PlaceValue
place_of p = record { path = path_of p.path; version = p.version; bytes = p.octets.now }

-- a datagram, or a packet of another network, by its number
pub data StepValue : Type 0 where
  datagram : PlaceValue → StepValue
  other : ℕ → StepValue

abbrev pub step_of : Step → StepValue
step_of (step.Datagram p) = datagram (place_of p)
step_of (step.Other n) = other n

-- a packet of a network
abbrev pub packet_in : PathValue → Network → List ℕ → StepValue
packet_in path network.Ipv4 bytes = datagram (record { path = path; version = V4; bytes = bytes })
packet_in path network.Ipv6 bytes = datagram (record { path = path; version = V6; bytes = bytes })
packet_in path (network.Other n) bytes = other n

-- ---- what a datagram holds

-- the most tunnels that are followed
abbrev pub most_tunnels : ℕ
most_tunnels = 4

-- Its payload is a tunnel's, with this in it, and is followed.
pub record IsFollowed (path : PathValue) (d : DatagramValue) (s : StepValue) : Type 0 where
  pub tunnel : Tunnel
  pub inner : InnerValue
  pub is_tunnel : tunnel_of d.protocol ≡ Some tunnel
  pub room : length path.tunnels < most_tunnels
  pub is_inner : IsInner tunnel d.payload inner
  pub leads : s ≡ packet_in (through path (passage tunnel d.addresses)) inner.network inner.payload

-- It is not: it is no tunnel's, too many tunnels were followed, or the header of the tunnel is refused.
pub data Stays (path : PathValue) (d : DatagramValue) : Type 0 where
  no_tunnel : tunnel_of d.protocol ≡ None → Stays path d
  too_deep : most_tunnels ≤ length path.tunnels → Stays path d
  refused : (tunnel : Tunnel) (r : TunnelRefusal) → tunnel_of d.protocol ≡ Some tunnel → Refuses tunnel d.payload r
      → Stays path d

-- ---- from one datagram to the next

-- the datagram that begins at a place, as far as it is there; and that none can be read
abbrev pub IsThere : Version → List ℕ → CapturedValue → Type 0
IsThere V4 = IsCaptured4
IsThere V6 = IsCaptured6

abbrev pub IsUnreadable : Version → List ℕ → DatagramRefusal → Type 0
IsUnreadable V4 = RefusesCaptured4
IsUnreadable V6 = RefusesCaptured6

-- one tunnel is followed
pub data Follows : StepValue → StepValue → Type 0 where
  followed : {s t : StepValue} (p : PlaceValue) (c : CapturedValue) → s ≡ datagram p → IsThere p.version p.bytes c
      → IsFollowed p.path c.datagram t → Follows s t

-- no further one is
pub data IsLast : StepValue → Type 0 where
  of_other : {s : StepValue} (n : ℕ) → s ≡ other n → IsLast s
  unreadable : {s : StepValue} (p : PlaceValue) (r : DatagramRefusal) → s ≡ datagram p
      → IsUnreadable p.version p.bytes r → IsLast s
  stays : {s : StepValue} (p : PlaceValue) (c : CapturedValue) → s ≡ datagram p → IsThere p.version p.bytes c
      → Stays p.path c.datagram → IsLast s

-- all of them are followed, one after another
pub data LeadsTo : StepValue → StepValue → Type 0 where
  last : {s e : StepValue} → IsLast s → e ≡ s → LeadsTo s e
  beyond : {s e : StepValue} (t : StepValue) → Follows s t → LeadsTo t e → LeadsTo s e
