-- The datagrams that are kept until all of their fragments came, and what each fragment does.
use Rattle.std.specs.Prelude.{◌≡◌, ◌≢◌, ◌<◌, ◌≤◌, List, [], ◌∷◌, ◌++◌, None, Some, false, length, map, ℕ}
use Rattle.reassembly.specs.Answer.{AnswerValue, incomplete, refused, whole}
use Rattle.reassembly.specs.Fragment.{FragmentValue, IsMalformed, IsSound, key_of}
use Rattle.reassembly.specs.Partial.{PartialValue, TakenValue, Takes, partial_of}
use Rattle.reassembly.specs.Partial as partial
use Rattle.reassembly.specs.Piece.{piece_in}
use Rattle.reassembly.specs.Types.{Key, Reassembly, Refusal}

-- the datagrams of which some fragments came, in the order in which they began
abbrev pub state_of : Reassembly → List PartialValue
state_of r = map partial_of r.datagrams.items

-- the most of them
abbrev pub most_datagrams : ℕ
most_datagrams = 64

-- none of them has this key
abbrev pub IsUnknown : Key → List PartialValue → Type 0
IsUnknown key [] = Unit {0}
IsUnknown key (d ∷ ds) = (d.key ≢ key) × IsUnknown key ds

-- a datagram of which one fragment came
abbrev pub begun : ℕ → FragmentValue → PartialValue
begun number f = record { key = key_of f; discarded = false; pieces = piece_in number f ∷ [] }

-- what is answered where a fragment did this to its datagram, and what then stands in the datagram's place
abbrev pub answered : TakenValue → AnswerValue
answered partial.kept = incomplete None
answered (partial.whole w) = whole w
answered (partial.refused refusal) = refused refusal

abbrev pub left_of : TakenValue → PartialValue → List PartialValue
left_of (partial.whole w) d = []
left_of _ d = d ∷ []

-- What a fragment does: the answer, and the datagrams that are then kept. One that is malformed changes nothing. The
-- first of a datagram begins one, and where there is no room the one that began first is dropped. Another is taken by
-- its datagram, which keeps its place until it is whole.
pub data Adds (old : List PartialValue) (number : ℕ) (f : FragmentValue) (answer : AnswerValue)
    (new : List PartialValue) : Type 0 where
  malformed : (refusal : Refusal) → IsMalformed f refusal → answer ≡ refused refusal → new ≡ old
      → Adds old number f answer new
  begins : IsSound f → IsUnknown (key_of f) old → length old < most_datagrams → answer ≡ incomplete None
      → new ≡ old ++ (begun number f ∷ []) → Adds old number f answer new
  drops : (first : PartialValue) (rest : List PartialValue) → IsSound f → IsUnknown (key_of f) old
      → most_datagrams ≤ length old → old ≡ first ∷ rest → answer ≡ incomplete (Some first)
      → new ≡ rest ++ (begun number f ∷ []) → Adds old number f answer new
  joins : (before behind : List PartialValue) (d changed : PartialValue) (taken : TakenValue) → IsSound f
      → old ≡ before ++ (d ∷ behind) → IsUnknown (key_of f) before → d.key ≡ key_of f
      → Takes d number f taken changed → answer ≡ answered taken
      → new ≡ before ++ (left_of taken changed ++ behind) → Adds old number f answer new
