-- Whatever the order in which the fragments of a datagram come, the same comes of them.
use Rattle.std.specs.Prelude.{◌≡◌, ◌<◌, ◌≤◌, ◌⊎◌, List, [], ◌∷◌, false, length, map, ℕ}
use Rattle.reassembly.specs.Answer.{AnswerValue, whole}
use Rattle.reassembly.specs.Fragment.{FragmentValue, IsSound, key_of}
use Rattle.reassembly.specs.Partial.{PartialValue, joined, most_pieces}
use Rattle.reassembly.specs.Piece.{PieceValue, Tiles, piece_in}
use Rattle.reassembly.specs.Reassembly.{Adds, IsUnknown, most_datagrams}
use Rattle.reassembly.specs.Types.{Key}

-- a fragment, with the number of the packet that it comes in
pub record Arrival : Type 0 where
  pub number : ℕ
  pub fragment : FragmentValue

abbrev pub piece_from : Arrival → PieceValue
piece_from a = piece_in a.number a.fragment

abbrev pub pieces_from : List Arrival → List PieceValue
pieces_from arrivals = map piece_from arrivals

-- ---- the fragments of a datagram, in the order of their offsets

-- one that a datagram with this key may take
pub record IsOf (key : Key) (a : Arrival) : Type 0 where
  pub sound : IsSound a.fragment
  pub same : key_of a.fragment ≡ key

abbrev pub AreOf : Key → List Arrival → Type 0
AreOf key [] = Unit {0}
AreOf key (a ∷ rest) = IsOf key a × AreOf key rest

-- all of them
pub record AreAllOf (key : Key) (arrivals : List Arrival) : Type 0 where
  pub each : AreOf key arrivals
  pub tile : Tiles (pieces_from arrivals)
  pub few : length arrivals ≤ most_pieces

-- ---- in the order in which they come

-- one of these is taken out, and the others are left
abbrev pub TakesOut : List Arrival → Arrival → List Arrival → Type 0
TakesOut [] a others = ⊥
TakesOut (b ∷ rest) a others =
    ((b ≡ a) × (others ≡ rest)) ⊎ ((more : List Arrival) × (others ≡ b ∷ more) × TakesOut rest a more)

-- the same ones in any order
abbrev pub Reorders : List Arrival → List Arrival → Type 0
Reorders all [] = all ≡ []
Reorders all (a ∷ rest) = (others : List Arrival) × TakesOut all a others × Reorders others rest

-- they come one after another: what the last one is answered, and the datagrams that are then kept
abbrev pub Come : List PartialValue → List Arrival → AnswerValue → List PartialValue → Type 0
Come old [] answer new = ⊥
Come old (a ∷ []) answer new = Adds old a.number a.fragment answer new
Come old (a ∷ b ∷ rest) answer new =
    (first : AnswerValue) × (between : List PartialValue) × Adds old a.number a.fragment first between
    × Come between (b ∷ rest) answer new

-- Where there is room for a datagram, and none of its fragments came before, they are answered by the whole datagram in
-- the end, with its payload and the numbers of the packets in the order of the offsets, and with the hop-by-hop options
-- of the one at offset 0; and what was kept before is kept.
abbrev pub AnyOrder : Type 0
AnyOrder =
    (key : Key) (all came : List Arrival) (old new : List PartialValue) (answer : AnswerValue)
    → AreAllOf key all → Reorders all came → IsUnknown key old → length old < most_datagrams → Come old came answer new
    → (answer ≡ whole (joined (record { key = key; discarded = false; pieces = pieces_from all }))) × (new ≡ old)
