-- Domain names as they are written in messages (RFC 1035 section 4.1.4): labels, one after another, and then the end
-- of the name or a pointer to where it goes on. No code is followed here.
--
-- A part of a name stops with a mark. Where it goes on, the next part is found at the target in the message. A falling
-- path has targets that each lie below the one before, and each part after the first lies between its target and the
-- target before it: so no byte of the message is in two of these windows, and the path ends.
use Rattle.std.specs.Prelude.{◌≡◌, ◌+◌, ◌*◌, ◌%◌, ◌<◌, ◌≤◌, ◌⊎◌, [], ◌∷◌, ◌++◌, List, ℕ, drop, length, map, slice_range}
use Rattle.std.specs.List.{AllByRecursion, flat_map}

-- ---- one part

-- a label has 1 to 63 bytes, and is written after its length
abbrev pub IsLabel : List ℕ → Type 0
IsLabel bytes = (1 ≤ length bytes) × (length bytes ≤ 63)

abbrev pub written : List ℕ → List ℕ
written bytes = length bytes ∷ bytes

-- how a part of a name stops: the name ends, or it goes on at a place of the message
pub data Stop : Type 0 where
  ends : Stop
  goes_on : ℕ → Stop

-- Byte 0 ends a name. A pointer is two bytes; the two top bits of the first are set, and the other fourteen are the
-- place.
abbrev pub IsMark : List ℕ → Stop → Type 0
IsMark mark ends = mark ≡ 0 ∷ []
IsMark mark (goes_on place) = (x : ℕ) × (y : ℕ) × (mark ≡ x ∷ y ∷ []) × (192 ≤ x) × (place ≡ 256 * (x % 64) + y)

-- a text begins with a part: labels, and then the mark of a stop
pub record IsPart (text : List ℕ) (labels : List (List ℕ)) (stop : Stop) : Type 0 where
  pub mark : List ℕ
  pub rest : List ℕ
  pub each : AllByRecursion IsLabel labels
  pub stops : IsMark mark stop
  pub whole : text ≡ flat_map written labels ++ (mark ++ rest)

-- a text is one part and nothing more, as the name of a question or of a record is
pub record IsOnePart (text : List ℕ) : Type 0 where
  pub labels : List (List ℕ)
  pub stop : Stop
  pub mark : List ℕ
  pub each : AllByRecursion IsLabel labels
  pub stops : IsMark mark stop
  pub whole : text ≡ flat_map written labels ++ mark

-- a text begins with whole labels
pub record IsFront (text : List ℕ) (labels : List (List ℕ)) : Type 0 where
  pub rest : List ℕ
  pub each : AllByRecursion IsLabel labels
  pub whole : text ≡ flat_map written labels ++ rest

-- the labels of several parts, in order
abbrev pub joined : List (List (List ℕ)) → List (List ℕ)
joined parts = flat_map (λ labels. labels) parts

-- ---- following pointers, wherever they lead

-- A text whose part ends has that part's labels. One whose part goes on at a place of the message has that part's
-- labels, and then those that are found there.
pub data Follows (message : List ℕ) : List ℕ → List (List ℕ) → Type 0 where
  here : {text : List ℕ} {labels : List (List ℕ)} → IsPart text labels ends → Follows message text labels
  there : {text : List ℕ} {labels : List (List ℕ)} (first more : List (List ℕ)) (place : ℕ)
      → IsPart text first (goes_on place) → place < length message → Follows message (drop place message) more
      → labels ≡ first ++ more → Follows message text labels

-- ---- falling paths

-- the first number is below `above`, and each is below the one before it
abbrev pub IsFalling : ℕ → List ℕ → Type 0
IsFalling above [] = Unit {0}
IsFalling above (p ∷ ps) = (p < above) × IsFalling p ps

-- the bytes of the message from each target up to the one before it, the first up to `above`
abbrev pub windows : List ℕ → ℕ → List ℕ → List (List ℕ)
windows message above [] = []
windows message above (p ∷ ps) = slice_range message p above ∷ windows message p ps

-- the windows of a path: the text that the walk begins with, and those of its targets
abbrev pub all_windows : List ℕ → List ℕ → List ℕ → List (List ℕ)
all_windows text message targets = text ∷ windows message (length message) targets

-- the last of the windows
abbrev pub last_window : List ℕ → List ℕ → ℕ → List ℕ → List ℕ
last_window text message above [] = text
last_window text message above (p ∷ ps) = last_window (slice_range message p above) message p ps

-- where the last of the windows ends: after it no byte of the message is open to a pointer
abbrev pub open_below : ℕ → List ℕ → ℕ
open_below above [] = above
open_below above (p ∷ ps) = open_below p ps

-- each window in turn begins with a part that has these labels and stops so, as far as the stops go
abbrev pub HaveParts : List (List ℕ) → List Stop → List (List (List ℕ)) → Type 0
HaveParts ws [] [] = Unit {0}
HaveParts ws [] (labels ∷ more) = ⊥
HaveParts [] (stop ∷ stops) parts = ⊥
HaveParts (w ∷ ws) (stop ∷ stops) [] = ⊥
HaveParts (w ∷ ws) (stop ∷ stops) (labels ∷ more) = IsPart w labels stop × HaveParts ws stops more

-- targets that fall; each window but the last has a part that goes on at the next target
pub record IsFallingPath (text message targets : List ℕ) (parts : List (List (List ℕ))) : Type 0 where
  pub falls : IsFalling (length message) targets
  pub parts_lead : HaveParts (all_windows text message targets) (map goes_on targets) parts

-- a falling path whose last window has a part that ends: it holds the whole name
pub record IsCompletePath (text message targets : List ℕ) (parts : List (List (List ℕ))) : Type 0 where
  pub falls : IsFalling (length message) targets
  pub parts_lead : HaveParts (all_windows text message targets) (map goes_on targets ++ ends ∷ []) parts

-- The name that begins in a text has these labels: those of its complete path.
pub record IsName (text message : List ℕ) (labels : List (List ℕ)) : Type 0 where
  pub targets : List ℕ
  pub parts : List (List (List ℕ))
  pub path : IsCompletePath text message targets parts
  pub is : labels ≡ joined parts

-- The longest falling path is not complete: no part of its last window ends. `front` is the longest list of whole
-- labels at the front of that window.
pub record IsBrokenPath (text message targets : List ℕ) (parts : List (List (List ℕ)))
    (front : List (List ℕ)) : Type 0 where
  pub path : IsFallingPath text message targets parts
  pub longest : (others : List ℕ) (other_parts : List (List (List ℕ)))
      → IsFallingPath text message others other_parts → length others ≤ length targets
  pub no_end : (labels : List (List ℕ)) → IsPart (last_window text message (length message) targets) labels ends → ⊥
  pub whole_front : IsFront (last_window text message (length message) targets) front
  pub longest_front : (others : List (List ℕ))
      → IsFront (last_window text message (length message) targets) others → length others ≤ length front

-- a text and a message have a complete path or a broken one
abbrev pub HasPath : List ℕ → List ℕ → Type 0
HasPath text message =
    ((targets : List ℕ) × (parts : List (List (List ℕ))) × IsCompletePath text message targets parts)
    ⊎ ((targets : List ℕ) × (parts : List (List (List ℕ))) × (front : List (List ℕ))
    × IsBrokenPath text message targets parts front)
