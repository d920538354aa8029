-- Items at the start of octets, one after another: as many steps as there are octets are enough.
use Rattle.record_wire.proofs.Words.{◌≡◌, ◌<◌, ◌≤◌, [], ◌∷◌, ◌∙◌, List, None, Option, Some, ℕ, ap, arith, length, refl}
use Rattle.record_wire.proofs.Words.{suc, sym, zero}
use Rattle.std.specs.Iterator.{MakesProgress, at_most}
use Rattle.std.specs.Borrow.{Bor}
use Rattle.record_wire.specs.Ahead.{then_more, ahead_up_to, ahead}

-- each item takes at least one octet
abbrev pub Shrinks : {V : Type 0} → (List ℕ → Option (V × List ℕ)) → Type 0
Shrinks {V} first = (octets rest : List ℕ) (v : V) → first octets ≡ Some (v, rest) → length rest < length octets

-- how the start was computed
pub data Front {V : Type 0} (first : List ℕ → Option (V × List ℕ)) (octets : List ℕ) : Type 0 where
  none : first octets ≡ None → Front first octets
  one : (v : V) (rest : List ℕ) → first octets ≡ Some (v, rest) → Front first octets

front_by : {V : Type 0} (first : List ℕ → Option (V × List ℕ)) (octets : List ℕ) (f : Option (V × List ℕ))
    → first octets ≡ f → Front first octets
front_by first octets None e = none e
front_by first octets (Some (v, rest)) e = one v rest e

pub front : {V : Type 0} (first : List ℕ → Option (V × List ℕ)) (octets : List ℕ) → Front first octets
front first octets = front_by first octets (first octets) refl

turn_some : {V : Type 0} (first : List ℕ → Option (V × List ℕ)) (most : ℕ) (octets rest : List ℕ) (v : V)
    → first octets ≡ Some (v, rest) → ahead_up_to first (suc most) octets ≡ v ∷ ahead_up_to first most rest
unfolding ahead_up_to
turn_some first most octets rest v e = ap (λ f. then_more f (ahead_up_to first most)) e

turn_none : {V : Type 0} (first : List ℕ → Option (V × List ℕ)) (most : ℕ) (octets : List ℕ)
    → first octets ≡ None → ahead_up_to first (suc most) octets ≡ []
unfolding ahead_up_to
turn_none first most octets e = ap (λ f. then_more f (ahead_up_to first most)) e

turn_zero : {V : Type 0} (first : List ℕ → Option (V × List ℕ)) (octets : List ℕ) → ahead_up_to first zero octets ≡ []
unfolding ahead_up_to
turn_zero first octets = refl

no_octets : {V : Type 0} (first : List ℕ → Option (V × List ℕ)) (octets : List ℕ) → Shrinks first
    → length octets ≤ 0 → first octets ≡ None
no_octets first octets shrinks h = elim (front first octets) [
  | none e ↦ e
  | one v rest e ↦ absurd (omega (arith, h, shrinks octets rest v e))
]

-- as many steps as there are octets are enough
pub enough : {V : Type 0} (first : List ℕ → Option (V × List ℕ)) → Shrinks first → (most more : ℕ) (octets : List ℕ)
    → length octets ≤ most → length octets ≤ more → ahead_up_to first most octets ≡ ahead_up_to first more octets
enough first shrinks zero zero octets h k = refl
enough first shrinks zero (suc more) octets h k =
    turn_zero first octets ∙ sym (turn_none first more octets (no_octets first octets shrinks h))
enough first shrinks (suc most) zero octets h k =
    turn_none first most octets (no_octets first octets shrinks k) ∙ sym (turn_zero first octets)
enough first shrinks (suc most) (suc more) octets h k =
    elim (front first octets) [
      | none e ↦ turn_none first most octets e ∙ sym (turn_none first more octets e)
      | one v rest e ↦
          let less = shrinks octets rest v e in
          let same = enough first shrinks most more rest (omega (arith, less, h)) (omega (arith, less, k)) in
          turn_some first most octets rest v e
          ∙ (ap (λ vs. v ∷ vs) same ∙ sym (turn_some first more octets rest v e))
    ]

pub ahead_none : {V : Type 0} (first : List ℕ → Option (V × List ℕ)) → Shrinks first → (octets : List ℕ)
    → first octets ≡ None → ahead first octets ≡ []
ahead_none first shrinks octets e =
    enough first shrinks (length octets) (suc (length octets)) octets (omega arith) (omega arith)
    ∙ turn_none first (length octets) octets e

pub ahead_some : {V : Type 0} (first : List ℕ → Option (V × List ℕ)) → Shrinks first → (octets rest : List ℕ) (v : V)
    → first octets ≡ Some (v, rest) → ahead first octets ≡ v ∷ ahead first rest
ahead_some first shrinks octets rest v e =
    let less = shrinks octets rest v e in
    enough first shrinks (length octets) (suc (length octets)) octets (omega arith) (omega arith)
    ∙ (turn_some first (length octets) octets rest v e
    ∙ ap (λ vs. v ∷ vs)
    (enough first shrinks (length octets) (length rest) rest (omega (arith, less)) (omega arith)))

-- each item leaves fewer octets
pub bytes_progress : (old new : List (List ℕ)) (bytes : Bor (List ℕ)) → old ≡ bytes.now ∷ new
    → MakesProgress {S = List (List ℕ)} {A = Bor (List ℕ)} (λ _. Unit {0}) (λ those. at_most (length those)) old
    (Some bytes) new
bytes_progress old new bytes e =
    let fewer : length new < length old = omega (arith, ap length e) in
    record { on = λ _. (tt, tt, fewer); keeps = tt; rests = λ _. tt }
