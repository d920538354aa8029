-- What private functions and models need; no public clause rests on it.
use Rattle.std.specs.Prelude.{◌≡◌, ◌⊎◌, ◌<◌, List, length, ℕ}
use Rattle.frame_wire.specs.DatagramHeaders.{IsExtension, HasAtomic}
use Rattle.frame_wire.specs.DatagramJoined.{IsFragmentHeader}
use Rattle.frame_wire.specs.Link.{TypedValue}
use Rattle.frame_wire.specs.Words.{Head, IpProtocol, Refusal}
use Rattle.frame_wire.specs.declared.link.Typed.{Typed}
use Rattle.wirebase.specs.declared.ipv6.address.Ipv6Address.{Ipv6Address}

-- a header that is passed
abbrev pub IsPassed : IpProtocol → List ℕ → Type 0
IsPassed p bytes = IsExtension p ⊎ ((p ≡ IpProtocol.Ipv6Frag) × HasAtomic bytes)

-- what is told of a datagram that is cut, by the refusal of what is there
abbrev pub told_of_cut : Refusal → Head → Refusal
told_of_cut (Refusal.Extension p) head = Refusal.Cut head
told_of_cut refusal head = refusal

-- what is told of the header of a fragment that is not atomic
abbrev pub TellsFragment : Ipv6Address → Ipv6Address → List ℕ → Refusal → Type 0
TellsFragment source destination header (Refusal.Extension p) = (p ≡ IpProtocol.Ipv6Frag) × (length header < 8)
TellsFragment source destination header (Refusal.Fragment h) = IsFragmentHeader source destination header h
TellsFragment source destination header _ = ⊥

abbrev pub typed_of : Typed → TypedValue
typed_of t = record { type = t.kind; tags = t.tags.now; payload = t.payload.now }
