-- What a text begins with, and one turn of the answers to come.
use Rattle.dns_wire.proofs.Words.{◌≡◌, ◌+◌, ◌*◌, ◌%◌, ◌<◌, ◌≤◌, [], ◌∷◌, ◌++◌, ◌∙◌, ◌⊎◌, Bool, Coming, List, NamePart}
use Rattle.dns_wire.proofs.Words.{ℕ, ahead_of, answers, ap, arith, at_end, at_fault, by_front, cases_lt, cond, drop}
use Rattle.dns_wire.proofs.Words.{drop_at, eqb, false, front_of, inl, inr, label, le-ltb, length, length-append}
use Rattle.dns_wire.proofs.Words.{length-drop, length-take-le, lt-ltb, ltb, ne_eqb, pointer, refl, stop, suc, sym, take}
use Rattle.dns_wire.proofs.Words.{take-append-drop, take_at, torn, true, whole, zero}
use Rattle.std.proofs.lemmas.Bool.{ltb-true, ltb-false, eqb-true, eqb-false}
use Rattle.dns_wire.specs.private.DnsNameAhead.{pointer_at}

-- which way a test went
pub chosen : {A : Type 0} (b : Bool) (x y z : A) → cond b x y ≡ z → ((b ≡ true) × (x ≡ z)) ⊎ ((b ≡ false) × (y ≡ z))
chosen true x y z e = inl (refl, e)
chosen false x y z e = inr (refl, e)

-- a whole label at the front
pub record Whole (text bytes rest : List ℕ) : Type 0 where
  pub is : text ≡ length bytes ∷ (bytes ++ rest)
  pub some : 1 ≤ length bytes
  pub few : length bytes ≤ 63

-- a pointer at the front
pub record Points (text : List ℕ) (target : ℕ) : Type 0 where
  pub first : ℕ
  pub second : ℕ
  pub rest : List ℕ
  pub is : text ≡ first ∷ second ∷ rest
  pub high : 192 ≤ first
  pub low : target ≡ 256 * (first % 64) + second

at_pointer : (x : ℕ) (xs : List ℕ) (p : ℕ) → 192 ≤ x → pointer_at x xs ≡ pointer p → Points (x ∷ xs) p
at_pointer x [] p h e = cc
at_pointer x (y ∷ ys) p h e = record { first = x; second = y; rest = ys; is = refl; high = h; low = cc }

no_pointer : (x : ℕ) (xs b r : List ℕ) → pointer_at x xs ≡ whole b r → ⊥
no_pointer x [] b r e = cc
no_pointer x (y ∷ ys) b r e = cc

no_pointer_stop : (x : ℕ) (xs : List ℕ) → pointer_at x xs ≡ stop → ⊥
no_pointer_stop x [] e = cc
no_pointer_stop x (y ∷ ys) e = cc

pub whole_parts : (a b c d : List ℕ) → whole a b ≡ whole c d → (a ≡ c) × (b ≡ d)
whole_parts a b c d e = (cc, cc)

whole_at : (x : ℕ) (xs : List ℕ) (b r : List ℕ) → (eqb x 0 ≡ false) → x < 64 → x ≤ length xs
    → whole (take x xs) (drop x xs) ≡ whole b r → Whole (x ∷ xs) b r
whole_at x xs b r n h l e =
    let p = whole_parts _ _ _ _ e in
    let k : length b ≡ x = ap length (sym p.0) ∙ length-take-le x xs l in
    let ne = eqb-false x 0 n in
    let t : xs ≡ b ++ r = sym (take-append-drop x xs) ∙ (ap (λ a. a ++ drop x xs) p.0 ∙ ap (λ a. b ++ a) p.1) in
    record { is = cc; some = omega (arith, k, ne); few = omega (arith, k) }

-- the front where the first byte is below 64, from 64 on, and not 0
abbrev small : ℕ → List ℕ → NamePart
small x xs = cond (ltb (length xs) x) torn (whole (take x xs) (drop x xs))

abbrev big : ℕ → List ℕ → NamePart
big x xs = cond (ltb x 192) torn (pointer_at x xs)

abbrev other : ℕ → List ℕ → NamePart
other x xs = cond (ltb x 64) (small x xs) (big x xs)

-- how a front came about
data Way (x : ℕ) (xs : List ℕ) (f : NamePart) : Type 0 where
  at_zero : x ≡ 0 → stop ≡ f → Way x xs f
  cut : torn ≡ f → Way x xs f
  at_whole : eqb x 0 ≡ false → x < 64 → x ≤ length xs → whole (take x xs) (drop x xs) ≡ f → Way x xs f
  at_high : 192 ≤ x → pointer_at x xs ≡ f → Way x xs f

way : (x : ℕ) (xs : List ℕ) (f : NamePart) → front_of (x ∷ xs) ≡ f → Way x xs f
way x xs f e =
    elim (chosen (eqb x 0) stop (other x xs) f e) [
      | inl h ↦ at_zero (eqb-true x 0 h.0) h.1
      | inr h ↦ elim (chosen (ltb x 64) (small x xs) (big x xs) f h.1) [
        | inl k ↦ elim (chosen (ltb (length xs) x) torn (whole (take x xs) (drop x xs)) f k.1) [
          | inl m ↦ cut m.1
          | inr m ↦ at_whole h.0 (ltb-true x 64 k.0) (ltb-false (length xs) x m.0) m.1
        ]
        | inr k ↦ elim (chosen (ltb x 192) torn (pointer_at x xs) f k.1) [
          | inl m ↦ cut m.1
          | inr m ↦ at_high (ltb-false x 192 m.0) m.1
        ]
      ]
    ]

pub Whole-front : (text b r : List ℕ) → front_of text ≡ whole b r → Whole text b r
Whole-front [] b r e = cc
Whole-front (x ∷ xs) b r e =
    elim (way x xs (whole b r) e) [
      | at_zero h k ↦ cc
      | cut k ↦ cc
      | at_whole n h l k ↦ whole_at x xs b r n h l k
      | at_high h k ↦ absurd (no_pointer x xs b r k)
    ]

pub Points-front : (text : List ℕ) (p : ℕ) → front_of text ≡ pointer p → Points text p
Points-front [] p e = cc
Points-front (x ∷ xs) p e =
    elim (way x xs (pointer p) e) [
      | at_zero h k ↦ cc
      | cut k ↦ cc
      | at_whole n h l k ↦ cc
      | at_high h k ↦ at_pointer x xs p h k
    ]

pub stop-front : (text : List ℕ) → front_of text ≡ stop → (rest : List ℕ) × (text ≡ 0 ∷ rest)
stop-front [] e = cc
stop-front (x ∷ xs) e =
    elim (way x xs stop e) [
      | at_zero h k ↦ (xs, ap (λ n. n ∷ xs) h)
      | cut k ↦ cc
      | at_whole n h l k ↦ cc
      | at_high h k ↦ absurd (no_pointer_stop x xs k)
    ]

-- a written label is at the front
pub front-whole : (bytes rest : List ℕ) → 1 ≤ length bytes → length bytes ≤ 63
    → front_of (length bytes ∷ (bytes ++ rest)) ≡ whole bytes rest
front-whole bytes rest a b =
    let e0 : eqb (length bytes) 0 ≡ false = ne_eqb _ _ (λ e. omega arith) in
    let e1 : ltb (length bytes) 64 ≡ true = lt-ltb _ _ (omega arith) in
    let e2 : ltb (length (bytes ++ rest)) (length bytes) ≡ false =
    le-ltb _ _ (omega (arith, length-append bytes rest)) in
    rw (e0, e1, e2, take_at bytes rest (length bytes) refl, drop_at bytes rest (length bytes) refl) refl

pub front-pointer : (x y : ℕ) (rest : List ℕ) → 192 ≤ x → front_of (x ∷ y ∷ rest) ≡ pointer (256 * (x % 64) + y)
front-pointer x y rest h =
    let e0 : eqb x 0 ≡ false = ne_eqb _ _ (λ e. omega arith) in
    let e1 : ltb x 64 ≡ false = le-ltb _ _ (omega arith) in
    let e2 : ltb x 192 ≡ false = le-ltb _ _ (omega arith) in
    rw (e0, e1, e2) refl

-- a label and its length byte are at least two bytes, a pointer is two
pub Whole-length : (text b r : List ℕ) → Whole text b r → length text ≡ length b + length r + 1
Whole-length text b r h = omega (arith, ap length h.is, length-append b r)

pub Points-length : (text : List ℕ) (p : ℕ) → Points text p → 2 ≤ length text
Points-length text p h = omega (arith, ap length h.is)

pub parts_length : (p : ℕ) (reach : List ℕ) → p < length reach
    → length (drop p reach) + length (take p reach) ≡ length reach
parts_length p reach h = omega (arith, length-drop p reach, length-take-le p reach (omega arith))

-- two ways to go on that agree where fewer bytes are left
same_turn : (f : NamePart) (n : ℕ) (text reach : List ℕ) (go on : ℕ → List ℕ → List ℕ → List Coming) → front_of text ≡ f
    → ((m : ℕ) (t r : List ℕ) → length t + length r + 2 ≤ length text + length reach → go m t r ≡ on m t r)
    → by_front f n reach go ≡ by_front f n reach on
same_turn (whole b r) n text reach go on e h =
    let w = Whole-front text b r e in
    ap (λ cs. record { answer = label b; steps = n + 1 } ∷ cs)
    (h (n + 1) r reach (omega (arith, Whole-length text b r w, w.some)))
same_turn (pointer p) n text reach go on e h =
    elim (cases_lt p (length reach)) [
      | inl l ↦ rw (lt-ltb p (length reach) l)
          (h (n + 1) (drop p reach) (take p reach)
          (omega (arith, parts_length p reach l, Points-length text p (Points-front text p e))))
      | inr l ↦ rw (le-ltb p (length reach) l) refl
    ]
same_turn stop n text reach go on e h = refl
same_turn torn n text reach go on e h = refl

-- what is enough is enough
pub answers_enough : (f g n : ℕ) (text reach : List ℕ) → length text + length reach ≤ f → length text + length reach ≤ g
    → answers f n text reach ≡ answers g n text reach
unfolding answers
answers_enough zero zero n text reach h k = refl
answers_enough zero (suc g) n [] reach h k = refl
answers_enough zero (suc g) n (x ∷ xs) reach h k = absurd (omega arith)
answers_enough (suc f) zero n [] reach h k = refl
answers_enough (suc f) zero n (x ∷ xs) reach h k = absurd (omega arith)
answers_enough (suc f) (suc g) n text reach h k =
    same_turn (front_of text) n text reach (answers f) (answers g) refl
    (λ m t r l. answers_enough f g m t r (omega arith) (omega arith))

-- the answers to come, in one turn
pub ahead_turn : (n : ℕ) (text reach : List ℕ) → ahead_of n text reach
    ≡ by_front (front_of text) n reach (ahead_of)
unfolding answers
ahead_turn n text reach =
    answers_enough (length text + length reach) (suc (length text + length reach)) n text reach (omega arith)
    (omega arith)
    ∙ same_turn (front_of text) n text reach (answers (length text + length reach)) (ahead_of) refl
    (λ m t r l. answers_enough (length text + length reach) (length t + length r) m t r (omega arith) (omega arith))

-- what is to come, by what the text begins with
pub ahead_label : (n : ℕ) (text reach b r : List ℕ) (old : List Coming) → whole b r ≡ front_of text
    → ahead_of n text reach ≡ old → old ≡ record { answer = label b; steps = n + 1 }
    ∷ ahead_of (n + 1) r reach
ahead_label n text reach b r old e h =
    sym h ∙ (ahead_turn n text reach ∙ ap (λ f. by_front f n reach (ahead_of)) (sym e))

pub ahead_pointer : (n : ℕ) (text reach : List ℕ) (p : ℕ) (old : List Coming) → pointer p ≡ front_of text
    → p < length reach → ahead_of n text reach ≡ old → ahead_of (n + 1) (drop p reach) (take p reach) ≡ old
ahead_pointer n text reach p old e l h =
    let t : ahead_of n text reach ≡ by_front (pointer p) n reach (ahead_of) =
    ahead_turn n text reach ∙ ap (λ f. by_front f n reach (ahead_of)) (sym e) in
    rw (lt-ltb p (length reach) l) at (sym t ∙ h)

pub ahead_far : (n : ℕ) (text reach : List ℕ) (p : ℕ) (old : List Coming) → pointer p ≡ front_of text → length reach ≤ p
    → ahead_of n text reach ≡ old → old ≡ at_fault n
ahead_far n text reach p old e l h =
    let t : ahead_of n text reach ≡ by_front (pointer p) n reach (ahead_of) =
    ahead_turn n text reach ∙ ap (λ f. by_front f n reach (ahead_of)) (sym e) in
    rw (le-ltb p (length reach) l) at (sym h ∙ t)

pub ahead_stop : (n : ℕ) (text reach : List ℕ) (old : List Coming) → stop ≡ front_of text
    → ahead_of n text reach ≡ old → old ≡ at_end n
ahead_stop n text reach old e h =
    sym h ∙ (ahead_turn n text reach ∙ ap (λ f. by_front f n reach (ahead_of)) (sym e))

pub ahead_torn : (n : ℕ) (text reach : List ℕ) (old : List Coming) → torn ≡ front_of text
    → ahead_of n text reach ≡ old → old ≡ at_fault n
ahead_torn n text reach old e h =
    sym h ∙ (ahead_turn n text reach ∙ ap (λ f. by_front f n reach (ahead_of)) (sym e))

-- nothing comes but the end where the text begins with the end of a name
pub ahead_ended : (n : ℕ) (reach : List ℕ) → ahead_of n (0 ∷ []) reach ≡ at_end n
ahead_ended n reach = ahead_turn n (0 ∷ []) reach
