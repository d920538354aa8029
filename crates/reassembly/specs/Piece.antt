-- Fragments that are kept of a datagram, and what they are together.
use Rattle.std.specs.Prelude.{◌≡◌, ◌≢◌, ◌<◌, ◌+◌, ◌⊎◌, ◌==◌, Bool, List, [], ◌∷◌, None, Option, false, if◌then◌else◌}
use Rattle.std.specs.Prelude.{length, map, nat_lt, true, ℕ}
use Rattle.std.specs.List.{flat_map}
use Rattle.std.specs.Option.{option_map}
use Rattle.reassembly.specs.Fragment.{FragmentValue}
use Rattle.reassembly.specs.Types.{IpProtocol, Piece, Standing}

-- a fragment by its content, with the number of the packet that it came in
pub record PieceValue : Type 0 where
  pub number : ℕ
  pub protocol : IpProtocol
  pub offset : ℕ
  pub more : Bool
  pub hop_by_hop : Option (List ℕ)
  pub octets : List ℕ

abbrev pub piece_of : Piece → PieceValue
piece_of p = record {
  number = p.number;
  protocol = p.protocol;
  offset = p.offset;
  more = p.more;
  hop_by_hop = option_map (λ options. options.items) p.hop_by_hop;
  octets = p.octets.items;
}

-- What is kept of the hop-by-hop options in front of a fragment: those of the one at offset 0 stay with the datagram,
-- and those of the others do not (RFC 8200 section 4.5).
abbrev pub kept_options : FragmentValue → Option (List ℕ)
kept_options f = if f.frag_offset == 0 then f.hop_by_hop else None

abbrev pub piece_in : ℕ → FragmentValue → PieceValue
piece_in number f = record {
  number = number;
  protocol = f.protocol;
  offset = f.frag_offset;
  more = f.more_frags;
  hop_by_hop = kept_options f;
  octets = f.payload;
}

-- the place after its last byte
abbrev pub end_of : PieceValue → ℕ
end_of p = p.offset + length p.octets

abbrev pub fragment_end : FragmentValue → ℕ
fragment_end f = f.frag_offset + length f.payload

-- ---- a fragment beside one that is kept

-- the same again, which may come in another packet, behind other options
abbrev pub IsSame : PieceValue → FragmentValue → Type 0
IsSame q f =
    (q.protocol ≡ f.protocol) × (q.offset ≡ f.frag_offset) × (q.more ≡ f.more_frags) × (q.octets ≡ f.payload)

-- they have a byte of the datagram in common
abbrev pub Overlap : PieceValue → FragmentValue → Type 0
Overlap q f = (q.offset < fragment_end f) × (f.frag_offset < end_of q)

-- one has bytes past the end of the datagram as the other, a last one, tells it
abbrev pub PassesEnd : PieceValue → FragmentValue → Type 0
PassesEnd q f =
    ((q.more ≡ false) × (end_of q < fragment_end f)) ⊎ ((f.more_frags ≡ false) × (fragment_end f < end_of q))

-- how they stand to one another
abbrev pub Stands : PieceValue → FragmentValue → Standing → Type 0
Stands q f Standing.Same = IsSame q f
Stands q f Standing.Overlapping = (IsSame q f → ⊥) × Overlap q f
Stands q f Standing.PastEnd = (Overlap q f → ⊥) × PassesEnd q f
Stands q f Standing.Apart = (Overlap q f → ⊥) × (PassesEnd q f → ⊥)

-- how a fragment stands to all that are kept of its datagram: apart from each, or as to the first that it is not apart
-- from
abbrev pub StandsToAll : List PieceValue → FragmentValue → Standing → Type 0
StandsToAll [] f standing = standing ≡ Standing.Apart
StandsToAll (q ∷ qs) f standing =
    (Stands q f standing × (standing ≢ Standing.Apart)) ⊎ (Stands q f Standing.Apart × StandsToAll qs f standing)

-- ---- those of a datagram, in the order of their offsets

-- They tile a datagram from a byte on to its end: each begins where the one before it ends, more follow each but the
-- last one, and after the last one none does. `more` is whether one has to follow.
abbrev pub TilesFrom : Bool → ℕ → List PieceValue → Type 0
TilesFrom more start [] = more ≡ false
TilesFrom more start (p ∷ ps) = (more ≡ true) × (p.offset ≡ start) × TilesFrom p.more (end_of p) ps

-- they are a whole datagram
abbrev pub Tiles : List PieceValue → Type 0
Tiles ps = TilesFrom true 0 ps

-- its payload, and the numbers of the packets
abbrev pub payload_of : List PieceValue → List ℕ
payload_of ps = flat_map (λ p. p.octets) ps

abbrev pub numbers_of : List PieceValue → List ℕ
numbers_of ps = map (λ p. p.number) ps

-- its protocol, as the first one names it
abbrev pub protocol_of_first : List PieceValue → IpProtocol
protocol_of_first [] = IpProtocol.Ipv6NoNxt
protocol_of_first (p ∷ ps) = p.protocol

-- its hop-by-hop options, as the first one has them
abbrev pub options_of_first : List PieceValue → Option (List ℕ)
options_of_first [] = None
options_of_first (p ∷ ps) = p.hop_by_hop

-- one more in its place
abbrev pub placed : PieceValue → List PieceValue → List PieceValue
placed p [] = p ∷ []
placed p (q ∷ qs) = if nat_lt q.offset p.offset then q ∷ placed p qs else p ∷ q ∷ qs
