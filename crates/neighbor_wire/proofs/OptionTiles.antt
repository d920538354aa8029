-- The tiling of bytes by the blocks of options: it exists, and it is one.
use Rattle.std.proofs.Common.{◌≡◌, ℕ, zero, suc, ◌*◌, ◌≤◌, ◌<◌, ◌&&◌, Bool, true, false, List, [], ◌∷◌, ◌++◌, length}
use Rattle.std.proofs.Common.{take, drop, Some, Ok, Err, Result, inl, inr, refl, sym, ap, subst, ◌∙◌, arith}
use Rattle.std.specs.Prelude.{nat_le, IfOk, IfErr}
use Rattle.std.proofs.lemmas.Bool.{leb-true, leb-false}
use Rattle.std.proofs.lemmas.List.{take-append-drop, length-take-le, take_at, drop_at, length-drop}
use Rattle.wirebase.specs.Checks.{Passes, Fails}
use Rattle.wirebase.proofs.Checks.{passes_fails, fails_one}
use Rattle.neighbor_wire.specs.declared.option.NeighborOption.{NeighborOption}
use Rattle.neighbor_wire.specs.declared.refusal.Refusal.{Refusal}
use Rattle.neighbor_wire.specs.Option.{value_of, units_in, IsOption, Refuses}
use Rattle.neighbor_wire.specs.Options.{Answer, Tile, ends, goes_on, breaks, block_checks, GivesOption}
use Rattle.neighbor_wire.specs.private.Options.{begins_with_block, reason_by, reason_of, after_block, blocks_within}
use Rattle.neighbor_wire.specs.private.Options.{blocks_of}

-- ---- whether the bytes begin with a block

record Both (a b : Bool) : Type 0 where
  one : a ≡ true
  two : b ≡ true

both : (a b : Bool) → a && b ≡ true → Both a b
both true true e = record { one = refl; two = refl }
both true false e = cc
both false b e = cc

block-begins : (bytes : List ℕ) → begins_with_block bytes ≡ true → Passes (block_checks bytes)
block-begins bytes e =
    let n : ℕ = units_in bytes in
    let first = both (nat_le 8 (length bytes)) _ e in
    let pair = both (nat_le 1 n) (nat_le (8 * n) (length bytes)) first.two in (
      leb-true 8 (length bytes) first.one,
      (leb-true 1 n pair.one, (leb-true (8 * n) (length bytes) pair.two, tt)),
    )

-- ---- why they don't

told_by : (bytes : List ℕ) (fixed some whole : Bool) → nat_le 8 (length bytes) ≡ fixed
    → nat_le 1 (units_in bytes) ≡ some → nat_le (8 * units_in bytes) (length bytes) ≡ whole
    → fixed && (some && whole) ≡ false → Fails (block_checks bytes) (reason_by fixed some bytes)
told_by bytes false some whole f s w none =
    let short = leb-false 8 (length bytes) f in inl (λ fixed. omega (arith, fixed, short), refl)
told_by bytes true false whole f s w none =
    let zero_units = leb-false 1 (units_in bytes) s in
    inr (leb-true 8 (length bytes) f, inl (λ some. omega (arith, some, zero_units), refl))
told_by bytes true true false f s w none =
    let cut = leb-false (8 * units_in bytes) (length bytes) w in
    inr (
      leb-true 8 (length bytes) f,
      inr (leb-true 1 (units_in bytes) s, inl (λ whole. omega (arith, whole, cut), refl)),
    )
told_by bytes true true true f s w none = cc

reason-told : (bytes : List ℕ) → begins_with_block bytes ≡ false → Fails (block_checks bytes) (reason_of bytes)
reason-told bytes none = told_by bytes _ _ _ refl refl refl none

-- ---- the tiling

tile_front : (most : ℕ) (bytes : List ℕ)
    → ((rest : List ℕ) → length rest ≤ most → Tile rest (blocks_within most rest)) → (bytes ≡ [] → ⊥)
    → length bytes ≤ suc most → (begins : Bool) → begins_with_block bytes ≡ begins
    → Tile bytes (after_block begins (8 * units_in bytes) bytes (blocks_within most))
tile_front most bytes go some l false e = breaks (reason_of bytes) some (reason-told bytes e)
tile_front most bytes go some l true e =
    let b = block-begins bytes e in
    let n : ℕ = 8 * units_in bytes in
    let room : n ≤ length bytes = b.1.1.0 in
    let fewer : length (drop n bytes) ≤ most = omega (arith, l, b.1.0, length-drop n bytes) in
    goes_on (take n bytes) (drop n bytes) b (length-take-le n bytes room) (go (drop n bytes) fewer)
    (sym (take-append-drop n bytes))

tile_within : (most : ℕ) (bytes : List ℕ) → length bytes ≤ most → Tile bytes (blocks_within most bytes)
unfolding blocks_within
tile_within most [] l = ends
tile_within zero (t ∷ rest) l = absurd (omega (arith, l))
tile_within (suc most) (t ∷ rest) l =
    tile_front most (t ∷ rest) (λ b f. tile_within most b f) (λ e. cc) l (begins_with_block (t ∷ rest)) refl

pub tile_of : (bytes : List ℕ) → Tile bytes (blocks_of bytes)
tile_of bytes = tile_within (length bytes) bytes (omega arith)

none_in_nothing : Passes (block_checks []) → ⊥
none_in_nothing b = omega (arith, b.0)

abbrev refused : Refusal → List Answer
refused refusal = Err refusal ∷ []

-- there is one only
pub tile-unique : (bytes : List ℕ) (answers others : List Answer) → Tile bytes answers → Tile bytes others
    → answers ≡ others
tile-unique bytes answers others ends ends = refl
tile-unique bytes answers others ends (goes_on f r b l t e) = absurd (none_in_nothing b)
tile-unique bytes answers others ends (breaks x some told) = absurd (some refl)
tile-unique bytes answers others (goes_on f r b l t e) ends = absurd (none_in_nothing b)
tile-unique bytes answers others (goes_on {answers = a} f r b l t e) (goes_on {answers = c} g s d k u i) =
    let n : ℕ = 8 * units_in bytes in
    let fronts : f ≡ g = sym (take_at f r n l) ∙ ap (λ (x : List ℕ). take n x) (sym e ∙ i) ∙ take_at g s n k in
    let rests : r ≡ s = sym (drop_at f r n l) ∙ ap (λ (x : List ℕ). drop n x) (sym e ∙ i) ∙ drop_at g s n k in
    let more : a ≡ c = tile-unique r a c t (subst (λ (x : List ℕ). Tile x c) (sym rests) u) in
    ap (λ (x : List ℕ). Ok x ∷ a) fronts ∙ ap (λ (x : List Answer). Ok g ∷ x) more
tile-unique bytes answers others (goes_on f r b l t e) (breaks x some told) =
    absurd (passes_fails (block_checks bytes) b x told)
tile-unique bytes answers others (breaks x some told) ends = absurd (some refl)
tile-unique bytes answers others (breaks x some told) (goes_on f r b l t e) =
    absurd (passes_fails (block_checks bytes) b x told)
tile-unique bytes answers others (breaks x some told) (breaks y more said) =
    ap refused (fails_one (block_checks bytes) x y told said)

-- ---- what a call of `next` gives

blocks_of-nothing : blocks_of [] ≡ []
unfolding blocks_within
blocks_of-nothing = refl

pub next-end : (bytes : List ℕ) → length bytes ≡ 0 → blocks_of bytes ≡ []
next-end [] e = blocks_of-nothing
next-end (t ∷ rest) e = absurd (omega (arith, e))

pub next-block : (bytes block rest : List ℕ) → Passes (block_checks bytes) → block ≡ take (8 * units_in bytes) bytes
    → rest ≡ drop (8 * units_in bytes) bytes → blocks_of bytes ≡ Ok block ∷ blocks_of rest
next-block bytes block rest b is behind =
    let n : ℕ = 8 * units_in bytes in
    let room : n ≤ length bytes = b.1.1.0 in
    let long : length block ≡ n = ap (λ (x : List ℕ). length x) is ∙ length-take-le n bytes room in
    let whole : bytes ≡ block ++ rest =
    sym (take-append-drop n bytes) ∙ ap (λ (x : List ℕ). x ++ drop n bytes) (sym is)
    ∙ ap (λ (x : List ℕ). block ++ x) (sym behind) in
    tile-unique bytes _ _ (tile_of bytes) (goes_on block rest b long (tile_of rest) whole)

pub next-refusal : (bytes rest : List ℕ) (refusal : Refusal) → 0 < length bytes
    → Fails (block_checks bytes) refusal → length rest ≡ 0 → blocks_of bytes ≡ Err refusal ∷ blocks_of rest
next-refusal bytes rest refusal some told e =
    tile-unique bytes _ _ (tile_of bytes) (breaks refusal (λ z. absurd (omega (arith, some, ap length z))) told)
    ∙ ap (λ (x : List Answer). Err refusal ∷ x) (sym (next-end rest e))

-- the option that a block is, or why it is none
pub gives : (result : Result NeighborOption Refusal) (bytes : List ℕ) (old new : List Answer)
    → IfOk result (λ o. IsOption bytes (value_of o)) → IfErr result (Refuses bytes) → old ≡ Ok bytes ∷ new
    → GivesOption old (Some result) new
gives (Ok o) bytes old new sound told e = (bytes, sound, e)
gives (Err refusal) bytes old new sound told e = inr (bytes, told, e)
