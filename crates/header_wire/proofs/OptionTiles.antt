-- The tiling of bytes by options: it exists, and it is one.
use Rattle.std.proofs.Common.{◌≡◌, ℕ, zero, suc, ◌+◌, ◌≤◌, ◌⊎◌, ◌==◌, ◌&&◌, Bool, true, false, List, [], ◌∷◌}
use Rattle.std.proofs.Common.{◌++◌, length, take, drop, Ok, Err, inl, inr, refl, sym, ap, subst, ◌∙◌, arith}
use Rattle.std.proofs.Common.{length-append, eqb-true, if◌then◌else◌}
use Rattle.std.specs.Prelude.{nat_le, slice_index}
use Rattle.std.proofs.lemmas.Bool.{leb-true, leb-false, eqb-false}
use Rattle.std.proofs.lemmas.List.{take-append-drop, take_at, drop_at, length-take-le, length-drop, get_or-take}
use Rattle.byteorder.specs.Endian.{big_number}
use Rattle.wirebase.specs.Bytes.{part}
use Rattle.wirebase.specs.Checks.{Passes}
use Rattle.wirebase.proofs.Checks.{passes_fails, fails_one}
use Rattle.wirebase.proofs.Pieces.{part-tail}
use Rattle.header_wire.specs.declared.options.OptionRefusal.{OptionRefusal}
use Rattle.header_wire.specs.Options.{OptionValue, no_operation, router_alert, other, IsOption, length_in}
use Rattle.header_wire.specs.private.Options.{IsWhole, option_len_in}
use Rattle.header_wire.specs.Options.{length_checks, Refuses, Answer, Tile, ends, list_ends, goes_on}
use Rattle.header_wire.specs.Options.{breaks}
use Rattle.header_wire.specs.private.Options.{counted_value, after_counted, answers_within, answers_of}

-- ---- an option that is all of the bytes

two_first : (front : List ℕ) → 2 ≤ length front → slice_index front 1 ≡ length front
    → front ≡ slice_index front 0 ∷ (2 + length (drop 2 front)) ∷ drop 2 front
two_first [] two e = absurd (omega (arith, two))
two_first (x ∷ []) two e = absurd (omega (arith, two))
two_first (x ∷ y ∷ d) two e = ap (λ (n : ℕ). x ∷ n ∷ d) (omega (arith, e))

counted_by : (k : ℕ) (d : List ℕ) → 2 ≤ k → (a b : Bool) → (k == 148) ≡ a → (length d == 2) ≡ b
    → IsOption (k ∷ (2 + length d) ∷ d) (if a && b then router_alert (big_number 2 d) else other k d)
counted_by k d some true true e f =
    let two : length d ≡ 2 = eqb-true (length d) 2 f in
    let kind : k ≡ 148 = eqb-true k 148 e in
    (d, ap (λ (n : ℕ). n ∷ (2 + length d) ∷ d) kind ∙ ap (λ (n : ℕ). 148 ∷ (2 + n) ∷ d) two, two, refl)
counted_by k d some true false e f = (refl, some, λ is two. absurd (eqb-false (length d) 2 f two))
counted_by k d some false b e f = (refl, some, λ is two. absurd (eqb-false k 148 e is))

pub counted_option : (front : List ℕ) → 2 ≤ length front → 2 ≤ slice_index front 0 → length_in front ≡ length front
    → IsOption front (counted_value (slice_index front 0) (drop 2 front))
counted_option front two some e =
    subst (λ (l : List ℕ). IsOption l (counted_value (slice_index front 0) (drop 2 front)))
    (sym (two_first front two e)) (counted_by (slice_index front 0) (drop 2 front) some _ _ refl refl)

-- a router alert, as it is read
pub alert_option : (front : List ℕ) (value : ℕ) → IsWhole front → 2 ≤ length front → slice_index front 0 ≡ 148
    → length (drop 2 front) ≡ 2 → value ≡ big_number 2 (part front 2 4) → IsOption front (router_alert value)
alert_option front value (inl lone) two kind four e = absurd (omega (arith, ap (λ (l : List ℕ). length l) lone, two))
alert_option front value (inr whole) two kind four e = (
  drop 2 front,
  two_first front two whole.2
      ∙ ap (λ (n : ℕ). n ∷ (2 + length (drop 2 front)) ∷ drop 2 front) kind
      ∙ ap (λ (n : ℕ). 148 ∷ (2 + n) ∷ drop 2 front) four,
  four,
  e ∙ ap (λ (l : List ℕ). big_number 2 l) (part-tail front 2 4 (omega (arith, four, length-drop 2 front))),
)

pub whole_option : (f : List ℕ) (v : OptionValue) → IsOption f v → IsWhole f
whole_option f no_operation h = inl h
whole_option f (router_alert value) h =
    subst (λ (l : List ℕ). IsWhole l) (sym h.1) (inr (omega arith, omega arith, omega (arith, h.2)))
whole_option f (other kind d) h =
    subst (λ (l : List ℕ). IsWhole l) (sym h.0) (inr (omega arith, h.1, omega arith))

option-one : (f : List ℕ) (v w : OptionValue) → IsOption f v → IsOption f w → v ≡ w
option-one f no_operation no_operation a b = refl
option-one f no_operation (router_alert m) a b = absurd (let e = sym a ∙ b.1 in cc)
option-one f no_operation (other k d) a b = absurd (let e = sym a ∙ b.0 in cc)
option-one f (router_alert n) no_operation a b = absurd (let e = sym a.1 ∙ b in cc)
option-one f (router_alert n) (router_alert m) a b =
    let same : a.0 ≡ b.0 = ap (λ (l : List ℕ). drop 2 l) (sym a.1 ∙ b.1) in
    ap (λ (x : ℕ). router_alert x) (a.3 ∙ ap (λ (l : List ℕ). big_number 2 l) same ∙ sym b.3)
option-one f (router_alert n) (other k d) a b =
    let e : 148 ∷ 4 ∷ a.0 ≡ k ∷ (2 + length d) ∷ d = sym a.1 ∙ b.0 in
    absurd (b.2 (sym (ap (λ (l : List ℕ). slice_index l 0) e))
    (omega (arith, ap (λ (l : List ℕ). slice_index l 1) e)))
option-one f (other k d) no_operation a b = absurd (let e = sym a.0 ∙ b in cc)
option-one f (other k d) (router_alert m) a b =
    let e : 148 ∷ 4 ∷ b.0 ≡ k ∷ (2 + length d) ∷ d = sym b.1 ∙ a.0 in
    absurd (a.2 (sym (ap (λ (l : List ℕ). slice_index l 0) e))
    (omega (arith, ap (λ (l : List ℕ). slice_index l 1) e)))
option-one f (other k d) (other n c) a b =
    let e : k ∷ (2 + length d) ∷ d ≡ n ∷ (2 + length c) ∷ c = sym a.0 ∙ b.0 in
    ap (λ (x : ℕ). other x d) (ap (λ (l : List ℕ). slice_index l 0) e)
    ∙ ap (λ (l : List ℕ). other n l) (ap (λ (l : List ℕ). drop 2 l) e)

-- ---- an option at the front of others

record Front (bytes f : List ℕ) : Type 0 where
  some : 1 ≤ length f
  kind : 1 ≤ slice_index bytes 0
  long : length f ≡ option_len_in bytes
  passes : 2 ≤ slice_index bytes 0 → Passes (length_checks bytes)

counted_len : (k n : ℕ) → 2 ≤ k → (if k == 1 then 1 else n) ≡ n
counted_len k n some = grind (arith, some)

front_whole : (f r : List ℕ) → IsWhole f → Front (f ++ r) f
front_whole [] r (inl e) = absurd (omega (arith, ap (λ (l : List ℕ). length l) e))
front_whole [] r (inr h) = absurd (omega (arith, h.0))
front_whole (x ∷ []) r (inl e) =
    let one : x ≡ 1 = ap (λ (l : List ℕ). slice_index l 0) e in
    record {
      some = omega arith;
      kind = omega (arith, one);
      long = rw one refl;
      passes = λ two. absurd (omega (arith, one, two));
    }
front_whole (x ∷ []) r (inr h) = absurd (omega (arith, h.0))
front_whole (x ∷ y ∷ d) r (inl e) = absurd (omega (arith, ap (λ (l : List ℕ). length l) e))
front_whole (x ∷ y ∷ d) r (inr h) = record {
  some = omega arith;
  kind = omega (arith, h.1);
  long = sym h.2 ∙ sym (counted_len x y h.1);
  passes =
      λ two. (omega arith, (omega (arith, h.2), (omega (arith, h.2, length-append d r), tt)));
}

front_of : (bytes f r : List ℕ) (v : OptionValue) → IsOption f v → bytes ≡ f ++ r → Front bytes f
front_of bytes f r v h e =
    subst (λ (l : List ℕ). Front l f) (sym e) (front_whole f r (whole_option f v h))

nothing : (f r : List ℕ) (v : OptionValue) → IsOption f v → [] ≡ f ++ r → ⊥
nothing f r v h e =
    let first = front_of [] f r v h e in
    omega (arith, first.some, ap (λ (l : List ℕ). length l) e, length-append f r)

unbroken : (bytes f r : List ℕ) (v : OptionValue) (why : OptionRefusal) → IsOption f v → bytes ≡ f ++ r
    → Refuses bytes why → ⊥
unbroken bytes f r v why h e told =
    passes_fails (length_checks bytes) ((front_of bytes f r v h e).passes told.0.1) why told.1

-- ---- the tiling

tile_counted : (most k : ℕ) (rest : List ℕ)
    → ((behind : List ℕ) → length behind ≤ most → Tile behind (answers_within most behind))
    → length (suc (suc k) ∷ rest) ≤ suc most → (two some whole : Bool)
    → nat_le 2 (length (suc (suc k) ∷ rest)) ≡ two → nat_le 2 (length_in (suc (suc k) ∷ rest)) ≡ some
    → nat_le (length_in (suc (suc k) ∷ rest)) (length (suc (suc k) ∷ rest)) ≡ whole
    → Tile (suc (suc k) ∷ rest)
    (after_counted two some whole (suc (suc k)) (suc (suc k) ∷ rest) (answers_within most))
tile_counted most k rest go l false some whole e f g =
    let short = leb-false 2 (length (suc (suc k) ∷ rest)) e in
    breaks OptionRefusal.NoLength ((omega arith, omega arith), inl (λ two. omega (arith, two, short), refl))
tile_counted most k rest go l true false whole e f g =
    let bytes : List ℕ = suc (suc k) ∷ rest in
    let few = leb-false 2 (length_in bytes) f in
    breaks (OptionRefusal.Length (length_in bytes)) (
      (omega arith, omega arith),
      inr (leb-true 2 (length bytes) e, inl (λ two. omega (arith, two, few), refl)),
    )
tile_counted most k rest go l true true false e f g =
    let bytes : List ℕ = suc (suc k) ∷ rest in
    let cut = leb-false (length_in bytes) (length bytes) g in
    breaks (OptionRefusal.Cut (length_in bytes)) (
      (omega arith, omega arith),
      inr (
        leb-true 2 (length bytes) e,
        inr (leb-true 2 (length_in bytes) f, inl (λ there. omega (arith, there, cut), refl)),
      ),
    )
tile_counted most k rest go l true true true e f g =
    let bytes : List ℕ = suc (suc k) ∷ rest in
    let n : ℕ = length_in bytes in
    let some : 2 ≤ n = leb-true 2 n f in
    let room : n ≤ length bytes = leb-true n (length bytes) g in
    let long : length (take n bytes) ≡ n = length-take-le n bytes room in
    let kind : slice_index (take n bytes) 0 ≡ suc (suc k) = get_or-take n bytes 0 0 (omega (arith, some)) in
    let counts : length_in (take n bytes) ≡ n = get_or-take n bytes 1 0 (omega (arith, some)) in
    let option : IsOption (take n bytes) (counted_value (slice_index (take n bytes) 0) (drop 2 (take n bytes))) =
    counted_option (take n bytes) (omega (arith, long, some)) (omega (arith, kind)) (counts ∙ sym long) in
    goes_on (take n bytes) (drop n bytes) (counted_value (suc (suc k)) (drop 2 (take n bytes)))
    (subst (λ (x : ℕ). IsOption (take n bytes) (counted_value x (drop 2 (take n bytes)))) kind option)
    (go (drop n bytes) (omega (arith, l, some, length-drop n bytes)))
    (sym (take-append-drop n bytes))

tile_within : (most : ℕ) (bytes : List ℕ) → length bytes ≤ most → Tile bytes (answers_within most bytes)
unfolding answers_within
tile_within most [] l = ends
tile_within zero (k ∷ rest) l = absurd (omega (arith, l))
tile_within (suc most) (zero ∷ rest) l = list_ends (omega arith) refl
tile_within (suc most) (suc zero ∷ rest) l =
    goes_on (1 ∷ []) rest no_operation refl (tile_within most rest (omega (arith, l))) refl
tile_within (suc most) (suc (suc k) ∷ rest) l =
    tile_counted most k rest (λ behind fewer. tile_within most behind fewer) l _ _ _ refl refl refl

pub tile_of : (bytes : List ℕ) → Tile bytes (answers_of bytes)
tile_of bytes = tile_within (length bytes) bytes (omega arith)

abbrev refused : OptionRefusal → List Answer
refused refusal = Err refusal ∷ []

-- there is one only
pub tile-one : (bytes : List ℕ) (answers others : List Answer) → Tile bytes answers → Tile bytes others
    → answers ≡ others
tile-one bytes answers others ends ends = refl
tile-one bytes answers others ends (list_ends some z) = absurd (omega (arith, some))
tile-one bytes answers others ends (goes_on f r v h t e) = absurd (nothing f r v h e)
tile-one bytes answers others ends (breaks x told) = absurd (omega (arith, told.0.0))
tile-one bytes answers others (list_ends some z) ends = absurd (omega (arith, some))
tile-one bytes answers others (list_ends some z) (list_ends more y) = refl
tile-one bytes answers others (list_ends some z) (goes_on f r v h t e) =
    let first = front_of bytes f r v h e in
    absurd (omega (arith, z, first.kind))
tile-one bytes answers others (list_ends some z) (breaks x told) = absurd (omega (arith, z, told.0.1))
tile-one bytes answers others (goes_on f r v h t e) ends = absurd (nothing f r v h e)
tile-one bytes answers others (goes_on f r v h t e) (list_ends some z) =
    let first = front_of bytes f r v h e in
    absurd (omega (arith, z, first.kind))
tile-one bytes answers others (goes_on {answers = a} f r v h t e) (goes_on {answers = c} g s w k u i) =
    let n : ℕ = option_len_in bytes in
    let one = (front_of bytes f r v h e).long in
    let two = (front_of bytes g s w k i).long in
    let fronts : f ≡ g = sym (take_at f r n one) ∙ ap (λ (x : List ℕ). take n x) (sym e ∙ i) ∙ take_at g s n two in
    let rests : r ≡ s = sym (drop_at f r n one) ∙ ap (λ (x : List ℕ). drop n x) (sym e ∙ i) ∙ drop_at g s n two in
    let same : v ≡ w = option-one g v w (subst (λ (l : List ℕ). IsOption l v) fronts h) k in
    let more : a ≡ c = tile-one r a c t (subst (λ (x : List ℕ). Tile x c) (sym rests) u) in
    ap (λ (x : OptionValue). Ok x ∷ a) same ∙ ap (λ (x : List Answer). Ok w ∷ x) more
tile-one bytes answers others (goes_on f r v h t e) (breaks x told) = absurd (unbroken bytes f r v x h e told)
tile-one bytes answers others (breaks x told) ends = absurd (omega (arith, told.0.0))
tile-one bytes answers others (breaks x told) (list_ends some z) = absurd (omega (arith, z, told.0.1))
tile-one bytes answers others (breaks x told) (goes_on f r v h t e) = absurd (unbroken bytes f r v x h e told)
tile-one bytes answers others (breaks x told) (breaks y said) =
    ap refused (fails_one (length_checks bytes) x y told.1 said.1)

-- ---- what a call of `next` gives

answers_of-nothing : answers_of [] ≡ []
unfolding answers_within
answers_of-nothing = refl

pub next-end : (bytes : List ℕ) → (length bytes ≡ 0) ⊎ (slice_index bytes 0 ≡ 0) → answers_of bytes ≡ []
next-end [] h = answers_of-nothing
next-end (k ∷ rest) (inl e) = absurd (omega (arith, e))
next-end (k ∷ rest) (inr e) = tile-one (k ∷ rest) _ _ (tile_of (k ∷ rest)) (list_ends (omega arith) e)

pub next-option : (bytes front rest : List ℕ) (n : ℕ) (v : OptionValue) → IsOption front v → front ≡ take n bytes
    → rest ≡ drop n bytes → answers_of bytes ≡ Ok v ∷ answers_of rest
next-option bytes front rest n v h is behind =
    let whole : bytes ≡ front ++ rest =
    sym (take-append-drop n bytes) ∙ ap (λ (x : List ℕ). x ++ drop n bytes) (sym is)
    ∙ ap (λ (x : List ℕ). front ++ x) (sym behind) in
    tile-one bytes _ _ (tile_of bytes) (goes_on front rest v h (tile_of rest) whole)

pub next-refusal : (bytes : List ℕ) (refusal : OptionRefusal) → Refuses bytes refusal
    → answers_of bytes ≡ Err refusal ∷ answers_of []
next-refusal bytes refusal told =
    tile-one bytes _ _ (tile_of bytes) (breaks refusal told)
    ∙ ap (λ (x : List Answer). Err refusal ∷ x) (sym answers_of-nothing)
