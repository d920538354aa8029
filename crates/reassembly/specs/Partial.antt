-- Datagrams of which some fragments came.
use Rattle.std.specs.Prelude.{◌≡◌, ◌<◌, ◌≤◌, Bool, List, [], Option, false, length, map, true, ℕ}
use Rattle.std.specs.Option.{option_map}
use Rattle.reassembly.specs.Fragment.{FragmentValue}
use Rattle.reassembly.specs.Piece.{PieceValue, piece_in, piece_of, StandsToAll, Tiles, placed, payload_of, numbers_of}
use Rattle.reassembly.specs.Piece.{options_of_first, protocol_of_first}
use Rattle.reassembly.specs.Types.{Addresses, IpProtocol, Key, Partial, Refusal, Standing, Whole}

-- a datagram by its content: its fragments in the order of their offsets, none where it is discarded
pub record PartialValue : Type 0 where
  pub key : Key
  pub discarded : Bool
  pub pieces : List PieceValue

abbrev pub partial_of : Partial → PartialValue
partial_of d = record { key = d.key; discarded = d.discarded; pieces = map piece_of d.pieces.items }

-- a datagram that was put together
pub record WholeValue : Type 0 where
  pub addresses : Addresses
  pub protocol : IpProtocol
  pub hop_by_hop : Option (List ℕ)
  pub payload : List ℕ
  pub numbers : List ℕ

abbrev pub whole_of : Whole → WholeValue
whole_of w = record {
  addresses = w.addresses;
  protocol = w.protocol;
  hop_by_hop = option_map (λ options. options.items) w.hop_by_hop;
  payload = w.payload.items;
  numbers = w.numbers.items;
}

-- what the fragments are together
abbrev pub joined : PartialValue → WholeValue
joined d = record {
  addresses = d.key.addresses;
  protocol = protocol_of_first d.pieces;
  hop_by_hop = options_of_first d.pieces;
  payload = payload_of d.pieces;
  numbers = numbers_of d.pieces;
}

-- a datagram with one more fragment, and a discarded one
abbrev pub with_fragment : PartialValue → ℕ → FragmentValue → PartialValue
with_fragment d number f =
    record { key = d.key; discarded = d.discarded; pieces = placed (piece_in number f) d.pieces }

abbrev pub discarded_of : PartialValue → PartialValue
discarded_of d = record { key = d.key; discarded = true; pieces = [] }

-- ---- one more fragment

-- the most fragments of a datagram
abbrev pub most_pieces : ℕ
most_pieces = 256

-- what a fragment does to its datagram
pub data TakenValue : Type 0 where
  kept : TakenValue
  whole : WholeValue → TakenValue
  refused : Refusal → TakenValue

-- What becomes of a datagram where a fragment comes. One that is discarded takes no more. A fragment that is there
-- already changes nothing. One that contradicts those that came before discards the datagram, and so does one too many.
-- Any other is put in its place, and the datagram is whole where they then tile it.
pub data Takes (d : PartialValue) (number : ℕ) (f : FragmentValue) (taken : TakenValue) (new : PartialValue) : Type 0
  where
    remembered : d.discarded ≡ true → taken ≡ refused Refusal.Discarded → new ≡ d → Takes d number f taken new
    repeated : d.discarded ≡ false → StandsToAll d.pieces f Standing.Same → taken ≡ kept → new ≡ d
        → Takes d number f taken new
    overlaps : d.discarded ≡ false → StandsToAll d.pieces f Standing.Overlapping → taken ≡ refused Refusal.Overlap
        → new ≡ discarded_of d → Takes d number f taken new
    passes_end : d.discarded ≡ false → StandsToAll d.pieces f Standing.PastEnd → taken ≡ refused Refusal.End
        → new ≡ discarded_of d → Takes d number f taken new
    overfills : d.discarded ≡ false → StandsToAll d.pieces f Standing.Apart → most_pieces ≤ length d.pieces
        → taken ≡ refused Refusal.TooMany → new ≡ discarded_of d → Takes d number f taken new
    keeps : d.discarded ≡ false → StandsToAll d.pieces f Standing.Apart → length d.pieces < most_pieces
        → (Tiles (with_fragment d number f).pieces → ⊥) → taken ≡ kept → new ≡ with_fragment d number f
        → Takes d number f taken new
    completes : d.discarded ≡ false → StandsToAll d.pieces f Standing.Apart → length d.pieces < most_pieces
        → Tiles (with_fragment d number f).pieces → taken ≡ whole (joined (with_fragment d number f))
        → new ≡ with_fragment d number f → Takes d number f taken new
