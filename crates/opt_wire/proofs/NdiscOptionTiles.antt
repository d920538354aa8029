-- The tiling of bytes by blocks: it exists, and it is one.
use Rattle.opt_wire.proofs.Words.{[], ◌&&◌, ◌*◌, ◌++◌, ◌<◌, ◌∙◌, ◌∷◌, ◌≡◌, ◌≤◌, BeginsWithBlock, Bool, Err, IfOk, IsErr}
use Rattle.opt_wire.proofs.Words.{List, Ok, Result, Some, ℕ, ap, arith, byte_of, drop, drop_at, false, inl, inr, le-leb}
use Rattle.opt_wire.proofs.Words.{leb-false, leb-true, length, length-drop, length-take-le, nat_le, refl, subst}
use Rattle.opt_wire.proofs.Words.{suc, sym, take, take-append-drop, take_at, true, type_field, units_in, zero}
use Rattle.std.specs.Result.{IfErr}
use Rattle.opt_wire.specs.NdiscOptionRepr.{value_of, BeginsWith}
use Rattle.opt_wire.specs.NdiscOptionBlocks.{Answer, Tile, ends, goes_on, breaks, GivesOption, IsUnread}
use Rattle.opt_wire.specs.private.NdiscOptionBlocks.{least_units}
use Rattle.opt_wire.specs.private.NdiscOptionBlocks.{begins_with_block, reason_by, reason_of, after_block}
use Rattle.opt_wire.specs.private.NdiscOptionBlocks.{blocks_within}
use Rattle.opt_wire.specs.private.NdiscOptionBlocks.{blocks_of}
use Rattle.opt_wire.specs.NdiscOptionRefusal.{checks, Refuses}
use Rattle.opt_wire.specs.declared.ndiscoption.refusal.Refusal.{Refusal}
use Rattle.opt_wire.specs.declared.ndiscoption.repr.Repr.{Repr}
use Rattle.wirebase.proofs.Checks.{fails_one}
use Rattle.opt_wire.proofs.NdiscOptionRefusals.{no_block}

-- ---- whether the bytes begin with a block

record Both (a b : Bool) : Type 0 where
  one : a ≡ true
  two : b ≡ true

both : (a b : Bool) → a && b ≡ true → Both a b
both true true e = record { one = refl; two = refl }
both true false e = cc
both false b e = cc

least_some : (t : ℕ) → 1 ≤ least_units t
least_some t = grind arith

block-begins : (bytes : List ℕ) → begins_with_block bytes ≡ true → BeginsWithBlock bytes
block-begins bytes e =
    let t : ℕ = byte_of type_field bytes in
    let n : ℕ = units_in bytes in
    let first = both (nat_le 8 (length bytes)) _ e in
    let pair = both (nat_le (least_units t) n) (nat_le (8 * n) (length bytes)) first.two in
    let fixed = leb-true 8 (length bytes) first.one in
    let least = leb-true (least_units t) n pair.one in
    let room = leb-true (8 * n) (length bytes) pair.two in
    record {
      whole = record {
        fixed = fixed;
        counted = omega (arith, room);
        prefix_is = λ is. omega (arith, least, ap least_units is);
        redirected = λ is. omega (arith, least, ap least_units is);
      };
      some = omega (arith, least, least_some t);
    }

least_fits : (t n : ℕ) → 1 ≤ n → (t ≡ 3 → 4 ≤ n) → (t ≡ 4 → 6 ≤ n) → least_units t ≤ n
least_fits t n some long packet = grind arith

begins-block : (bytes : List ℕ) → BeginsWithBlock bytes → begins_with_block bytes ≡ true
begins-block bytes b =
    let t : ℕ = byte_of type_field bytes in
    let n : ℕ = units_in bytes in
    let least = least_fits t n b.some b.whole.prefix_is b.whole.redirected in
    rw (
      le-leb 8 (length bytes) b.whole.fixed,
      le-leb (least_units t) n least,
      le-leb (8 * n) (length bytes) (omega (arith, b.whole.counted)),
    ) refl

-- ---- why they don't

told_by : (bytes : List ℕ) → (BeginsWithBlock bytes → ⊥) → (fixed some whole : Bool)
    → nat_le 8 (length bytes) ≡ fixed → nat_le 1 (units_in bytes) ≡ some
    → nat_le (8 * units_in bytes) (length bytes) ≡ whole → Refuses bytes (reason_by fixed some whole bytes)
told_by bytes none false some whole f s w =
    let short = leb-false 8 (length bytes) f in inl (λ fixed. omega (arith, fixed, short), refl)
told_by bytes none true false whole f s w =
    let zero_units = leb-false 1 (units_in bytes) s in
    inr (leb-true 8 (length bytes) f, inl (λ some. omega (arith, some, zero_units), refl))
told_by bytes none true true false f s w =
    let cut = leb-false (8 * units_in bytes) (length bytes) w in
    inr (
      leb-true 8 (length bytes) f,
      inr (leb-true 1 (units_in bytes) s, inl (λ whole. omega (arith, whole, cut), refl)),
    )
told_by bytes none true true true f s w =
    no_block bytes (
      leb-true 8 (length bytes) f,
      (leb-true 1 (units_in bytes) s, (leb-true (8 * units_in bytes) (length bytes) w, tt)),
    ) none

-- the reason that is computed holds of the bytes
reason-told : (bytes : List ℕ) → (BeginsWithBlock bytes → ⊥) → Refuses bytes (reason_of bytes)
reason-told bytes none = told_by bytes none _ _ _ refl refl refl

abbrev refused : Refusal → List Answer
refused refusal = Err refusal ∷ []

-- ---- the tiling

tile_front : (most : ℕ) (bytes : List ℕ)
    → ((rest : List ℕ) → length rest ≤ most → Tile rest (blocks_within most rest)) → (bytes ≡ [] → ⊥)
    → length bytes ≤ suc most → (begins : Bool) → begins_with_block bytes ≡ begins
    → Tile bytes (after_block begins (8 * units_in bytes) bytes (blocks_within most))
tile_front most bytes go some l false e =
    let none : BeginsWithBlock bytes → ⊥ = λ b. let is = begins-block bytes b in cc in
    breaks (reason_of bytes) some none (reason-told bytes none)
tile_front most bytes go some l true e =
    let b = block-begins bytes e in
    let n : ℕ = 8 * units_in bytes in
    let room : n ≤ length bytes = omega (arith, b.whole.counted) in
    let fewer : length (drop n bytes) ≤ most = omega (arith, l, b.some, length-drop n bytes) in
    goes_on (take n bytes) (drop n bytes) b (length-take-le n bytes room) (go (drop n bytes) fewer)
    (sym (take-append-drop n bytes))

tile_within : (most : ℕ) (bytes : List ℕ) → length bytes ≤ most → Tile bytes (blocks_within most bytes)
unfolding blocks_within
tile_within most [] l = ends
tile_within zero (t ∷ rest) l = absurd (omega (arith, l))
tile_within (suc most) (t ∷ rest) l =
    tile_front most (t ∷ rest) (λ b f. tile_within most b f) (λ e. cc) l (begins_with_block (t ∷ rest)) refl

pub tile_of : (bytes : List ℕ) → Tile bytes (blocks_of bytes)
tile_of bytes = tile_within (length bytes) bytes (omega arith)

none_in_nothing : BeginsWithBlock [] → ⊥
none_in_nothing b = omega (arith, b.whole.fixed)

-- there is one only
pub tile-unique : (bytes : List ℕ) (answers others : List Answer) → Tile bytes answers → Tile bytes others
    → answers ≡ others
tile-unique bytes answers others ends ends = refl
tile-unique bytes answers others ends (goes_on f r b l t e) = absurd (none_in_nothing b)
tile-unique bytes answers others ends (breaks x some none told) = absurd (some refl)
tile-unique bytes answers others (goes_on f r b l t e) ends = absurd (none_in_nothing b)
tile-unique bytes answers others (goes_on {answers = a} f r b l t e) (goes_on {answers = c} g s d k u i) =
    let n : ℕ = 8 * units_in bytes in
    let fronts : f ≡ g = sym (take_at f r n l) ∙ ap (λ (x : List ℕ). take n x) (sym e ∙ i) ∙ take_at g s n k in
    let rests : r ≡ s = sym (drop_at f r n l) ∙ ap (λ (x : List ℕ). drop n x) (sym e ∙ i) ∙ drop_at g s n k in
    let more : a ≡ c = tile-unique r a c t (subst (λ (x : List ℕ). Tile x c) (sym rests) u) in
    ap (λ (x : List ℕ). Ok x ∷ a) fronts ∙ ap (λ (x : List Answer). Ok g ∷ x) more
tile-unique bytes answers others (goes_on f r b l t e) (breaks x some none told) = absurd (none b)
tile-unique bytes answers others (breaks x some none told) ends = absurd (some refl)
tile-unique bytes answers others (breaks x some none told) (goes_on f r b l t e) = absurd (none b)
tile-unique bytes answers others (breaks x some none told) (breaks y more nothing said) =
    ap refused (fails_one (checks bytes) x y told said)

-- ---- what a call of `next` gives

blocks_of-nothing : blocks_of [] ≡ []
unfolding blocks_within
blocks_of-nothing = refl

pub next-end : (bytes : List ℕ) → length bytes ≡ 0 → blocks_of bytes ≡ []
next-end [] e = blocks_of-nothing
next-end (t ∷ rest) e = absurd (omega (arith, e))

pub next-block : (bytes block rest : List ℕ) → BeginsWithBlock bytes → block ≡ take (8 * units_in bytes) bytes
    → rest ≡ drop (8 * units_in bytes) bytes → blocks_of bytes ≡ Ok block ∷ blocks_of rest
next-block bytes block rest b is behind =
    let n : ℕ = 8 * units_in bytes in
    let room : n ≤ length bytes = omega (arith, b.whole.counted) in
    let long : length block ≡ n = ap (λ (x : List ℕ). length x) is ∙ length-take-le n bytes room in
    let whole : bytes ≡ block ++ rest =
    sym (take-append-drop n bytes) ∙ ap (λ (x : List ℕ). x ++ drop n bytes) (sym is)
    ∙ ap (λ (x : List ℕ). block ++ x) (sym behind) in
    tile-unique bytes _ _ (tile_of bytes) (goes_on block rest b long (tile_of rest) whole)

pub next-refusal : (bytes rest : List ℕ) (refusal : Refusal) → 0 < length bytes → (BeginsWithBlock bytes → ⊥)
    → Refuses bytes refusal → length rest ≡ 0 → blocks_of bytes ≡ Err refusal ∷ blocks_of rest
next-refusal bytes rest refusal some none told e =
    tile-unique bytes _ _ (tile_of bytes) (breaks refusal (λ z. absurd (omega (arith, some, ap length z))) none told)
    ∙ ap (λ (x : List Answer). Err refusal ∷ x) (sym (next-end rest e))

-- what is read in a block, or why nothing is
pub gives : (result : Result Repr Refusal) (bytes : List ℕ) (old new : List Answer)
    → IfOk result (λ r. BeginsWith bytes (value_of r)) → (IsErr result → IsUnread bytes)
    → IfErr result (λ refusal. Refuses bytes refusal) → old ≡ Ok bytes ∷ new → GivesOption old (Some result) new
gives (Ok r) bytes old new sound unread told e = (bytes, sound, e)
gives (Err refusal) bytes old new sound unread told e = inr (bytes, unread refl, told, e)
