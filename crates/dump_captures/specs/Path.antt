-- The way to a datagram: the VLAN tags of its frame, the tunnels that it is in, and the packets that its fragments
-- came in.
use Rattle.std.specs.Prelude.{ℕ, List, [], ◌∷◌, ◌++◌}
use Rattle.frame_wire.specs.declared.datagram.Addresses.{Addresses}
use Rattle.frame_wire.specs.declared.tunnel.Tunnel.{Tunnel}
use Rattle.dump_captures.specs.declared.path.Passage.{Passage}
use Rattle.dump_captures.specs.declared.path.Path.{Path}
use Rattle.dump_captures.specs.declared.path.Tunnels.{Tunnels}
use Rattle.dump_captures.specs.declared.path.Tunnels.TheVariants.{Zero, One, Two, Three, Four}

-- the tunnels, the outermost first
abbrev pub tunnels_of : Tunnels → List Passage
tunnels_of Zero = []
tunnels_of (One a) = a ∷ []
tunnels_of (Two a b) = a ∷ b ∷ []
tunnels_of (Three a b c) = a ∷ b ∷ c ∷ []
tunnels_of (Four a b c d) = a ∷ b ∷ c ∷ d ∷ []

-- VLAN tags of four bytes each, tunnels with the outermost first, and the numbers of the packets that the fragments
-- came in, in the order of their offsets: none where the datagram came whole
pub record PathValue : Type 0 where
  pub tags : List ℕ
  pub tunnels : List Passage
  pub frames : List ℕ

abbrev pub path_of : Path → PathValue
path_of p = record { tags = p.tags.now; tunnels = tunnels_of p.tunnels; frames = p.frames.now }

-- a tunnel between these addresses
abbrev pub passage : Tunnel → Addresses → Passage
passage tunnel addresses = record { tunnel = tunnel; addresses = addresses }

-- in a tunnel more
abbrev pub through : PathValue → Passage → PathValue
through path p = record path { tunnels = path.tunnels ++ p ∷ [] }
