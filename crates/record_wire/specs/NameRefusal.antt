-- Why the name that begins in a text and may go on in a message is refused: the check that fails first.
use Rattle.std.specs.Prelude.{◌≡◌, ◌+◌, ◌*◌, ◌%◌, ◌<◌, ◌≤◌, [], ◌∷◌, ◌++◌, List, ℕ, codes, decimal, drop, length, take}
use Rattle.record_wire.specs.Words.{IsLabel, NameRefusal, PartRefusal, pieces, written}
use Rattle.record_wire.specs.Names.{Names, most_pointers}
use Rattle.record_wire.specs.RecordRefusal.{IsCut, part_display}

-- a text begins with a pointer to this place
abbrev pub PointsTo : List ℕ → ℕ → Type 0
PointsTo text place =
    (x : ℕ) × (y : ℕ) × (rest : List ℕ) × (text ≡ x ∷ y ∷ rest) × (192 ≤ x) × (place ≡ 256 * (x % 64) + y)

-- Reading a name comes to what is left of it, after labels of this many octets and this many pointers, while these
-- bytes of the message are open: it begins with the text and all the message; a label is passed over where byte 0 has
-- room after it; a pointer leads to an open byte, and leaves those before it open.
pub data ComesTo (text message : List ℕ) : ℕ → ℕ → List ℕ → List ℕ → Type 0 where
  begins : ComesTo text message 0 0 text message
  passes : {left : List ℕ} {all : ℕ} (octets pointers : ℕ) (bytes rest opened : List ℕ)
      → ComesTo text message octets pointers rest opened → IsLabel bytes → rest ≡ written bytes ++ left
      → all ≡ octets + length (written bytes) → all < 255 → ComesTo text message all pointers left opened
  follows : {left below : List ℕ} {all : ℕ} (octets pointers place : ℕ) (rest opened : List ℕ)
      → ComesTo text message octets pointers rest opened → PointsTo rest place → place < length opened
      → all ≡ pointers + 1 → all ≤ most_pointers → left ≡ drop place opened → below ≡ take place opened
      → ComesTo text message octets all left below

-- the rest of a name, and the state in which reading came to it
pub record IsLeft (text message left : List ℕ) : Type 0 where
  pub octets : ℕ
  pub pointers : ℕ
  pub opened : List ℕ
  pub comes : ComesTo text message octets pointers left opened

-- Reading comes to octets that are cut, to a label of another kind, to a pointer to a byte that is not open, to one
-- pointer too many, or to a label with which the name has more than 255 octets.
abbrev pub RefusesName : List ℕ → List ℕ → NameRefusal → Type 0
RefusesName text message (NameRefusal.Part PartRefusal.Cut) = (left : List ℕ) × IsLeft text message left × IsCut left
RefusesName text message (NameRefusal.Part (PartRefusal.LabelType n)) =
    (rest : List ℕ) × IsLeft text message (n ∷ rest) × (64 ≤ n) × (n < 192)
RefusesName text message (NameRefusal.Pointer place) =
    (left : List ℕ) × (at : IsLeft text message left) × PointsTo left place × (length at.opened ≤ place)
RefusesName text message NameRefusal.TooManyPointers =
    (left : List ℕ) × (place : ℕ) × (at : IsLeft text message left) × PointsTo left place
    × (place < length at.opened) × (at.pointers ≡ most_pointers)
RefusesName text message NameRefusal.TooLong =
    (left : List ℕ) × (bytes : List ℕ) × (rest : List ℕ) × (at : IsLeft text message left) × IsLabel bytes
    × (left ≡ written bytes ++ rest) × (255 ≤ at.octets + length (written bytes))

-- a name that is read
abbrev pub HasName : List ℕ → List ℕ → Type 0
HasName text message = (labels : List (List ℕ)) × Names message text labels

abbrev pub name_refusal_display : NameRefusal → List ℕ
name_refusal_display (NameRefusal.Part why) = part_display why
name_refusal_display (NameRefusal.Pointer place) =
    pieces (codes "a pointer to place " ∷ decimal place ∷ codes " leads nowhere or round" ∷ [])
name_refusal_display NameRefusal.TooManyPointers = codes "the name follows more than 127 pointers"
name_refusal_display NameRefusal.TooLong = codes "the name has more than 255 octets"
