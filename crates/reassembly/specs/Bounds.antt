-- How much is kept.
use Rattle.std.specs.Prelude.{◌≡◌, ◌≢◌, ◌≤◌, ◌<◌, ◌+◌, List, [], ◌∷◌, None, length, ℕ}
use Rattle.reassembly.specs.Fragment.{most_options, options_len}
use Rattle.reassembly.specs.Partial.{PartialValue, most_pieces}
use Rattle.reassembly.specs.Piece.{PieceValue, end_of}
use Rattle.reassembly.specs.Reassembly.{most_datagrams}

-- The fragments of a datagram are in the order of their offsets from a byte on, none is empty, and no two have a byte
-- in common; the datagram has at most 65,535 bytes.
abbrev pub AreSpaced : ℕ → List PieceValue → Type 0
AreSpaced start [] = start ≤ 65535
AreSpaced start (p ∷ ps) = (start ≤ p.offset) × (p.offset < end_of p) × AreSpaced (end_of p) ps

-- The hop-by-hop options of a fragment are those of a header at most, and none where it is not at offset 0.
pub record KeepsFew (p : PieceValue) : Type 0 where
  pub most : options_len p.hop_by_hop ≤ most_options
  pub first : p.offset ≢ 0 → p.hop_by_hop ≡ None

abbrev pub AllKeepFew : List PieceValue → Type 0
AllKeepFew [] = Unit {0}
AllKeepFew (p ∷ ps) = KeepsFew p × AllKeepFew ps

-- at most `MOST_PIECES` fragments
pub record IsBounded (d : PartialValue) : Type 0 where
  pub spaced : AreSpaced 0 d.pieces
  pub few : length d.pieces ≤ most_pieces
  pub options : AllKeepFew d.pieces

abbrev pub AllBounded : List PartialValue → Type 0
AllBounded [] = Unit {0}
AllBounded (d ∷ ds) = IsBounded d × AllBounded ds

-- the bytes of the fragments that are kept
abbrev pub octets_in : List PieceValue → ℕ
octets_in [] = 0
octets_in (p ∷ ps) = length p.octets + octets_in ps

abbrev pub octets_kept : List PartialValue → ℕ
octets_kept [] = 0
octets_kept (d ∷ ds) = octets_in d.pieces + octets_kept ds

-- the bytes of the hop-by-hop options that are kept
abbrev pub options_in : List PieceValue → ℕ
options_in [] = 0
options_in (p ∷ ps) = options_len p.hop_by_hop + options_in ps

abbrev pub options_kept : List PartialValue → ℕ
options_kept [] = 0
options_kept (d ∷ ds) = options_in d.pieces + options_kept ds

-- At most `MOST_DATAGRAMS` datagrams, of at most `MOST_PIECES` fragments each; less than 4 MiB of fragments in all, and
-- less than 128 KiB of hop-by-hop options.
pub record IsWithinBounds (ds : List PartialValue) : Type 0 where
  pub few : length ds ≤ most_datagrams
  pub each : AllBounded ds
  pub octets : octets_kept ds < 4194304
  pub options : options_kept ds < 131072
