-- The parts of a payload in turn: they are what is computed, and that alone.
use Rattle.std.proofs.Common.{◌≡◌, ℕ, zero, suc, ◌+◌, ◌*◌, ◌/◌, ◌≤◌, ◌<◌, ◌⊎◌, Bool, true, false, List, [], ◌∷◌, ◌++◌}
use Rattle.std.proofs.Common.{length, take, drop, map, inl, inr, refl, sym, ap, subst, ◌∙◌, arith, take-append-drop}
use Rattle.std.specs.Prelude.{nat_le}
use Rattle.std.specs.List.{concat}
use Rattle.std.proofs.lemmas.Bool.{cases_lt, leb-true, leb-false, le-leb, lt-leb}
use Rattle.std.proofs.lemmas.List.{append-nil, length-take-le, length-drop}
use Rattle.header_wire.specs.Fragments.{FragmentValue, BeginAt, Fill, AreFragments}
use Rattle.header_wire.specs.private.Fragments.{fragment, after_part, parts_within}

-- the bytes of a part that others follow
abbrev unit : ℕ → ℕ
unit room = 8 * (room / 8)

-- the first part has all the bytes, or as many as there is room for
abbrev FirstIs : ℕ → ℕ → List FragmentValue → Type 0
FirstIs room n [] = ⊥
FirstIs room n (f ∷ more) = (length f.part ≡ n) ⊎ (length f.part ≡ unit room)

record AreAhead (room offset : ℕ) (bytes : List ℕ) (parts : List FragmentValue) : Type 0 where
  joined : concat (map (λ f. f.part) parts) ≡ bytes
  begin : BeginAt (8 * offset) parts
  fill : Fill room parts
  first : FirstIs room (length bytes) parts

fill_more : (room n : ℕ) (f : FragmentValue) (parts : List FragmentValue) → 8 ≤ room → f.more_frags ≡ true
    → length f.part ≡ unit room → room < unit room + n → FirstIs room n parts → Fill room parts → Fill room (f ∷ parts)
fill_more room n f [] some more long past first fill = absurd first
fill_more room n f (next ∷ parts) some more long past (inl all) fill =
    (more, long, omega (arith, long, all, past), fill)
fill_more room n f (next ∷ parts) some more long past (inr full) fill =
    (more, long, omega (arith, long, full, some), fill)

all_ahead : (room offset : ℕ) (bytes : List ℕ) → length bytes ≤ room
    → AreAhead room offset bytes (fragment offset false bytes ∷ [])
all_ahead room offset bytes fits =
    record { joined = append-nil bytes; begin = (refl, tt); fill = (refl, fits); first = inl refl }

more_ahead : (room offset : ℕ) (bytes : List ℕ) (parts : List FragmentValue) → 8 ≤ room → room < length bytes
    → AreAhead room (offset + room / 8) (drop (unit room) bytes) parts
    → AreAhead room offset bytes (fragment offset true (take (unit room) bytes) ∷ parts)
more_ahead room offset bytes parts some past ahead =
    let long : length (take (unit room) bytes) ≡ unit room = length-take-le (unit room) bytes (omega (arith, past)) in
    let left = length-drop (unit room) bytes in
    let next : 8 * (offset + room / 8) ≡ 8 * offset + length (take (unit room) bytes) = omega (arith, long) in
    record {
      joined = ap (λ (l : List ℕ). take (unit room) bytes ++ l) ahead.joined ∙ take-append-drop (unit room) bytes;
      begin = (refl, subst (λ (n : ℕ). BeginAt n parts) next ahead.begin);
      fill =
          fill_more room (length (drop (unit room) bytes)) (fragment offset true (take (unit room) bytes)) parts some
          refl long (omega (arith, left, past)) ahead.first ahead.fill;
      first = inr long;
    }

parts_step : (room offset : ℕ) (bytes : List ℕ) (go : List ℕ → List FragmentValue) → 8 ≤ room
    → ((rest : List ℕ) → length rest < length bytes → AreAhead room (offset + room / 8) rest (go rest))
    → (fits : Bool) → nat_le (length bytes) room ≡ fits
    → AreAhead room offset bytes (after_part fits room offset bytes go)
parts_step room offset bytes go some ahead true e = all_ahead room offset bytes (leb-true (length bytes) room e)
parts_step room offset bytes go some ahead false e =
    let past = leb-false (length bytes) room e in
    let rest : List ℕ = drop (unit room) bytes in
    more_ahead room offset bytes (go rest) some (omega (arith, past))
    (ahead rest (omega (arith, length-drop (unit room) bytes, past, some)))

parts_are : (most room offset : ℕ) (bytes : List ℕ) → 8 ≤ room → length bytes ≤ most
    → AreAhead room offset bytes (parts_within most room offset bytes)
unfolding parts_within
parts_are zero room offset bytes some few = all_ahead room offset bytes (omega (arith, some, few))
parts_are (suc most) room offset bytes some few =
    parts_step room offset bytes (parts_within most room (offset + room / 8)) some
    (λ rest less. parts_are most room (offset + room / 8) rest some (omega (arith, less, few)))
    (nat_le (length bytes) room) refl

pub fragments_are : (room : ℕ) (payload : List ℕ) → 8 ≤ room
    → AreFragments room payload (parts_within (length payload) room 0 payload)
fragments_are room payload some =
    let ahead = parts_are (length payload) room 0 payload some (omega arith) in
    record { joined = ahead.joined; begin = ahead.begin; fill = ahead.fill }

-- ---- what a call of `next` gives

pub last_ahead : (most room offset : ℕ) (bytes : List ℕ) → length bytes ≤ room
    → parts_within most room offset bytes ≡ fragment offset false bytes ∷ []
unfolding parts_within
last_ahead zero room offset bytes fits = refl
last_ahead (suc most) room offset bytes fits =
    ap (λ (b : Bool). after_part b room offset bytes (parts_within most room (offset + room / 8)))
    (le-leb (length bytes) room fits)

front_ahead : (most room offset : ℕ) (bytes : List ℕ) → room < length bytes
    → parts_within (suc most) room offset bytes
    ≡ fragment offset true (take (unit room) bytes)
    ∷ parts_within most room (offset + room / 8) (drop (unit room) bytes)
unfolding parts_within
front_ahead most room offset bytes past =
    ap (λ (b : Bool). after_part b room offset bytes (parts_within most room (offset + room / 8)))
    (lt-leb (length bytes) room past)

-- however many parts may be given, if they are enough
enough : (m n room offset : ℕ) (bytes : List ℕ) → 8 ≤ room → length bytes ≤ m → length bytes ≤ n
    → parts_within m room offset bytes ≡ parts_within n room offset bytes
enough zero n room offset bytes some a b =
    let fits : length bytes ≤ room = omega (arith, some, a) in
    last_ahead zero room offset bytes fits ∙ sym (last_ahead n room offset bytes fits)
enough (suc m) zero room offset bytes some a b =
    let fits : length bytes ≤ room = omega (arith, some, b) in
    last_ahead (suc m) room offset bytes fits ∙ sym (last_ahead zero room offset bytes fits)
enough (suc m) (suc n) room offset bytes some a b =
    elim (cases_lt room (length bytes)) [
      | inl past ↦
          let rest : List ℕ = drop (unit room) bytes in
          let fewer : length rest < length bytes = omega (arith, length-drop (unit room) bytes, past, some) in
          front_ahead m room offset bytes past
          ∙ ap (λ (l : List FragmentValue). fragment offset true (take (unit room) bytes) ∷ l)
          (enough m n room (offset + room / 8) rest some (omega (arith, fewer, a)) (omega (arith, fewer, b)))
          ∙ sym (front_ahead n room offset bytes past)
      | inr fits ↦ last_ahead (suc m) room offset bytes fits ∙ sym (last_ahead (suc n) room offset bytes fits)
    ]

pub part_ahead : (room offset : ℕ) (bytes front rest : List ℕ) → 8 ≤ room → room < length bytes
    → front ≡ take (unit room) bytes → rest ≡ drop (unit room) bytes
    → parts_within (length bytes) room offset bytes
    ≡ fragment offset true front ∷ parts_within (length rest) room (offset + room / 8) rest
part_ahead room offset [] front rest some past e f = absurd (omega (arith, past))
part_ahead room offset (byte ∷ bytes) front rest some past e f =
    let all : List ℕ = byte ∷ bytes in
    let more : List ℕ → List FragmentValue = parts_within (length bytes) room (offset + room / 8) in
    let fewer : length rest < length all =
    omega (arith, ap (λ (l : List ℕ). length l) f, length-drop (unit room) all, past, some) in
    front_ahead (length bytes) room offset all past
    ∙ ap (λ (l : List ℕ). fragment offset true l ∷ more (drop (unit room) all)) (sym e)
    ∙ ap (λ (l : List ℕ). fragment offset true front ∷ more l) (sym f)
    ∙ ap (λ (l : List FragmentValue). fragment offset true front ∷ l)
    (enough (length bytes) (length rest) room (offset + room / 8) rest some (omega (arith, fewer)) (omega arith))
