-- Tunnels that are followed, one after another.
use Rattle.std.proofs.Common.{◌≡◌, ◌<◌, ◌-◌, ◌+◌, ℕ, IfSome, List, None, Option, Some, refl, ◌∷◌, [], length, arith}
use Rattle.std.proofs.Common.{subst, sym}
use Rattle.std.proofs.lemmas.List.{length-append}
use Rattle.frame_wire.specs.Captured.{CapturedValue}
use Rattle.frame_wire.specs.declared.link.Network.{Network}
use Rattle.frame_wire.specs.declared.link.Network.TheVariants as network
use Rattle.dump_captures.specs.Path.{PathValue, through}
use Rattle.dump_captures.specs.Place.{Follows, IsFollowed, IsLast, IsThere, LeadsTo, PlaceValue, StepValue, beyond}
use Rattle.dump_captures.specs.Place.{datagram, followed}
use Rattle.dump_captures.specs.Place.{most_tunnels, of_other, other, packet_in, step_of}
use Rattle.dump_captures.specs.declared.path.Passage.{Passage}
use Rattle.dump_captures.specs.declared.place.Place.{Place}
use Rattle.dump_captures.specs.declared.place.Step.{Step}
use Rattle.dump_captures.specs.declared.place.Step.TheVariants as step

-- how many tunnels are still to be followed, at most
abbrev pub left : StepValue → ℕ
left (other n) = 0
left (datagram p) = 1 + most_tunnels - length p.path.tunnels

-- what is in a tunnel is deeper than what is outside
deeper : (path : PathValue) (p : Passage) (n : Network) (bytes : List ℕ) → length path.tunnels < most_tunnels
    → left (packet_in (through path p) n bytes) < 1 + most_tunnels - length path.tunnels
deeper path p network.Ipv4 bytes room = omega (arith, room, length-append path.tunnels (p ∷ []))
deeper path p network.Ipv6 bytes room = omega (arith, room, length-append path.tunnels (p ∷ []))
deeper path p (network.Other n) bytes room = omega (arith, room)

pub left-less : (now next : StepValue) → Follows now next → left next < left now
left-less now next (followed p c is there follows) =
    let inner = deeper p.path _ follows.inner.network follows.inner.payload follows.room in
    subst (λ s. left next < left s) (sym is) (subst (λ s. left s < left (datagram p)) (sym follows.leads) inner)

-- some were followed, and what the next lead to is what the first lead to
abbrev pub SoFar : StepValue → StepValue → Type 0
SoFar first now = (e : StepValue) → LeadsTo now e → LeadsTo first e

pub so_far-more : (first now next : StepValue) → SoFar first now → Follows now next → SoFar first next
so_far-more first now next so_far follows e leads = so_far e (beyond next follows leads)

-- what is no datagram is a packet of another network
pub is_other : (s : Step) → ((p : Place) → s ≡ step.Datagram p → ⊥) → IsLast (step_of s)
is_other (step.Datagram p) not = absurd (not p refl)
is_other (step.Other n) not = of_other n refl

-- a tunnel that is followed, where there is one
pub some_followed : (next : Option Step) (s : StepValue) (p : PlaceValue) (c : CapturedValue) → s ≡ datagram p
    → IsThere p.version p.bytes c → IfSome next (λ t. IsFollowed p.path c.datagram (step_of t))
    → IfSome next (λ t. Follows s (step_of t))
some_followed None s p c is there follows = tt
some_followed (Some t) s p c is there follows = followed p c is there follows
