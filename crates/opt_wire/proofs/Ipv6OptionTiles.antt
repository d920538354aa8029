-- The tiling of bytes by options: it exists, it is one, and its options take up all the bytes.
use Rattle.opt_wire.proofs.Words.{[], ◌++◌, ◌<◌, ◌∙◌, ◌∷◌, ◌≡◌, ◌≤◌, ◌⊎◌, Answer, Bool, Err, Error, IsOption, List}
use Rattle.opt_wire.proofs.Words.{None, Ok, Option, OptionValue, Some, Tile, ℕ, ap, arith, breaks, drop, drop_at, ends}
use Rattle.opt_wire.proofs.Words.{false, goes_on, inl, inr, length, length-append, map, pad1, pad_n, refl, router_alert}
use Rattle.opt_wire.proofs.Words.{subst, suc, sum_by, sum_by-cons, sym, true, unknown, zero}
use Rattle.opt_wire.specs.Ipv6Option.{text_len, BeginsWith}
use Rattle.opt_wire.specs.Ipv6OptionRefusal.{IsBehind}
use Rattle.opt_wire.specs.Ipv6OptionModel.{front_of}
use Rattle.opt_wire.specs.private.Ipv6OptionModel.{after_front, answers_within, answers_of, answers_to_come}
use Rattle.opt_wire.proofs.Ipv6OptionGrammar.{begins_with, front_of-begins, begins_with-unique}

-- an option takes the bytes that it counts
length-option : (w : List ℕ) (v : OptionValue) → IsOption w v → length w ≡ text_len v
length-option w pad1 h = ap length h
length-option w (pad_n n) h = omega (arith, ap length h.1, h.2)
length-option w (router_alert a) h = ap length h.2
length-option w (unknown k n d) h = omega (arith, ap length h.1, h.2)

counted_some : (v : OptionValue) → 1 ≤ text_len v
counted_some v = grind arith

-- the bytes after the option at the front
pub rest_after : (front rest : List ℕ) (v : OptionValue) → IsOption front v → drop (text_len v) (front ++ rest) ≡ rest
rest_after front rest v h = drop_at front rest (text_len v) (length-option front v h)

tile_front : (most : ℕ) (bytes : List ℕ)
    → ((rest : List ℕ) → length rest ≤ most → Tile rest (answers_within most rest)) → (bytes ≡ [] → ⊥)
    → length bytes ≤ suc most → (o : Option OptionValue) → front_of bytes ≡ o
    → Tile bytes (after_front o bytes (answers_within most))
tile_front most bytes go some l None e = breaks (record {}) some (λ v h. let f = front_of-begins bytes v h in cc)
tile_front most bytes go some l (Some v) e =
    let h = begins_with bytes v e in
    let rest : drop (text_len v) bytes ≡ h.rest = ap (λ (b : List ℕ). drop (text_len v) b) h.whole
    ∙ rest_after h.front h.rest v h.option in
    let fewer : length h.rest ≤ most =
    omega (arith, ap length h.whole, length-append h.front h.rest, length-option h.front v h.option, counted_some v)
    in
    goes_on h.front h.rest v h.option
    (subst (λ (b : List ℕ). Tile h.rest (answers_within most b)) (sym rest) (go h.rest fewer)) h.whole

tile_within : (most : ℕ) (bytes : List ℕ) → length bytes ≤ most → Tile bytes (answers_within most bytes)
unfolding answers_within
tile_within most [] l = ends
tile_within zero (t ∷ rest) l = absurd (omega (arith, l))
tile_within (suc most) (t ∷ rest) l =
    tile_front most (t ∷ rest) (λ b f. tile_within most b f) (λ e. cc) l (front_of (t ∷ rest)) refl

pub tile_of : (bytes : List ℕ) → Tile bytes (answers_of bytes)
tile_of bytes = tile_within (length bytes) bytes (omega arith)

-- an option at the front, and none at the front of no bytes
begins_by : (bytes front rest : List ℕ) (v : OptionValue) → IsOption front v → bytes ≡ front ++ rest
    → BeginsWith bytes v
begins_by bytes front rest v h e = record { front = front; rest = rest; whole = e; option = h }

none_in_nothing : (v : OptionValue) → BeginsWith [] v → ⊥
none_in_nothing v h = let f = front_of-begins [] v h in cc

-- what follows the option at the front
pub behind_first : (bytes rest : List ℕ) (v : OptionValue) → BeginsWith bytes v → rest ≡ drop (text_len v) bytes
    → IsBehind bytes rest
behind_first bytes rest v h e =
    let same : rest ≡ h.rest =
    e ∙ ap (λ (b : List ℕ). drop (text_len v) b) h.whole ∙ rest_after h.front h.rest v h.option in
    (h.front, v, h.whole ∙ ap (λ (b : List ℕ). h.front ++ b) (sym same), h.option)

-- there is one tiling only
pub tile-unique : (bytes : List ℕ) (answers others : List Answer) → Tile bytes answers → Tile bytes others
    → answers ≡ others
tile-unique bytes answers others ends ends = refl
tile-unique bytes answers others ends (goes_on f r v h t e) = absurd (none_in_nothing v (begins_by [] f r v h e))
tile-unique bytes answers others ends (breaks x some none) = absurd (some refl)
tile-unique bytes answers others (goes_on f r v h t e) ends = absurd (none_in_nothing v (begins_by [] f r v h e))
tile-unique bytes answers others (goes_on {answers = a} f r v h t e) (goes_on {answers = b} g s w k u i) =
    let same : v ≡ w = begins_with-unique bytes v w (begins_by bytes f r v h e) (begins_by bytes g s w k i) in
    let rests : r ≡ s = sym (rest_after f r v h) ∙ ap (λ (l : List ℕ). drop (text_len v) l) (sym e ∙ i)
    ∙ ap (λ (x : OptionValue). drop (text_len x) (g ++ s)) same ∙ rest_after g s w k in
    let more : a ≡ b = tile-unique r a b t (subst (λ (l : List ℕ). Tile l b) (sym rests) u) in
    ap (λ (x : OptionValue). Ok x ∷ a) same ∙ ap (λ (l : List Answer). Ok w ∷ l) more
tile-unique bytes answers others (goes_on f r v h t e) (breaks x some none) =
    absurd (none v (begins_by bytes f r v h e))
tile-unique bytes answers others (breaks x some none) ends = absurd (some refl)
tile-unique bytes answers others (breaks x some none) (goes_on f r v h t e) =
    absurd (none v (begins_by bytes f r v h e))
tile-unique bytes answers others (breaks x some none) (breaks y more nothing) = refl

-- where all answers are options, they take up all the bytes
pub sum-tile : (bytes : List ℕ) (answers : List Answer) → Tile bytes answers → (options : List OptionValue)
    → answers ≡ map Ok options → sum_by text_len options ≡ length bytes
sum-tile bytes answers ends [] e = refl
sum-tile bytes answers ends (v ∷ options) e = cc
sum-tile bytes answers (goes_on f r v h t w) [] e = cc
sum-tile bytes answers (goes_on {answers = a} f r v h t w) (u ∷ options) e =
    let same : v ≡ u = cc in
    let more : sum_by text_len options ≡ length r = sum-tile r a t options cc in
    omega (
      arith,
      sum_by-cons text_len u options,
      more,
      ap text_len same,
      length-option f v h,
      ap length w,
      length-append f r,
    )
sum-tile bytes answers (breaks x some none) [] e = cc
sum-tile bytes answers (breaks x some none) (v ∷ options) e = cc

-- what a call of `next` gives
pub answers_of-nothing : answers_of [] ≡ []
unfolding answers_within
answers_of-nothing = refl

pub answers_of-begins : (bytes : List ℕ) (v : OptionValue) → BeginsWith bytes v
    → answers_of bytes ≡ Ok v ∷ answers_of (drop (text_len v) bytes)
answers_of-begins bytes v h =
    let rest : drop (text_len v) bytes ≡ h.rest = ap (λ (b : List ℕ). drop (text_len v) b) h.whole
    ∙ rest_after h.front h.rest v h.option in
    tile-unique bytes _ _ (tile_of bytes) (goes_on h.front h.rest v h.option (tile_of h.rest) h.whole)
    ∙ ap (λ (b : List ℕ). Ok v ∷ answers_of b) (sym rest)

pub answers_of-broken : (bytes : List ℕ) → (bytes ≡ [] → ⊥) → ((v : OptionValue) → BeginsWith bytes v → ⊥)
    → answers_of bytes ≡ Err (record {}) ∷ []
answers_of-broken bytes some none = tile-unique bytes _ _ (tile_of bytes) (breaks (record {}) some none)

pub next-option : (hit : Bool) (bytes rest : List ℕ) (v : OptionValue) → hit ≡ false → BeginsWith bytes v
    → rest ≡ drop (text_len v) bytes → answers_to_come hit bytes ≡ Ok v ∷ answers_to_come hit rest
next-option hit bytes rest v e h r =
    rw e (answers_of-begins bytes v h ∙ ap (λ (b : List ℕ). Ok v ∷ answers_of b) (sym r))

pub next-refusal : (hit : Bool) (bytes : List ℕ) (refusal : Error) → hit ≡ false → 0 < length bytes
    → ((v : OptionValue) → BeginsWith bytes v → ⊥) → answers_to_come hit bytes ≡ Err refusal ∷ []
next-refusal hit bytes refusal e some none =
    rw e (answers_of-broken bytes (λ z. absurd (omega (arith, some, ap length z))) none)

pub next-end : (hit : Bool) (bytes : List ℕ) → (hit ≡ true) ⊎ (length bytes ≡ 0) → answers_to_come hit bytes ≡ []
next-end true bytes h = refl
next-end false [] h = answers_of-nothing
next-end false (t ∷ rest) h = elim h [
  | inl a ↦ cc
  | inr b ↦ absurd (omega (arith, b))
]
