-- The options in octets.
use Rattle.record_wire.proofs.Words.{◌≡◌, ◌<◌, ◌≤◌, ◌&&◌, [], ◌∷◌, ◌∙◌, Answer, Bool, Err, List, None, Ok, Option, Some}
use Rattle.record_wire.proofs.Words.{ℕ, answers_in, ap, arith, cases_lt, cond, drop, false, inl, inr, le-leb, leb}
use Rattle.record_wire.proofs.Words.{leb-true, length, length-drop, number_of, refl, subst, suc, sym, take, true, zero}
use Rattle.std.proofs.lemmas.Bool.{lt-leb}
use Rattle.record_wire.specs.declared.edns.OptionRefusal.{OptionRefusal}
use Rattle.record_wire.specs.Edns.{OptionValue, IsOption, HasOption, option_len, code_field, Tile, RefusesOption}
use Rattle.record_wire.specs.Edns.{option_at, why_none, answer_by, answer_at}
use Rattle.record_wire.proofs.Characters.{both}
use Rattle.record_wire.proofs.Ahead.{Shrinks, none, one, front, ahead_none, ahead_some}

-- ---- an option at the start

abbrev the_option : List ℕ → OptionValue
the_option bytes = record { code = number_of code_field bytes; «data» = take (option_len bytes) (drop 4 bytes) }

abbrev behind : List ℕ → List ℕ
behind bytes = drop (option_len bytes) (drop 4 bytes)

at_test : {A : Type 0} (b : Bool) (x y : A) → cond b (Some x) None ≡ Some y → (b ≡ true) × (x ≡ y)
at_test true x y e = (refl, cc)
at_test false x y e = cc

at_true : {A : Type 0} (a b : Bool) (x y : A) → a ≡ true → b ≡ true → cond (a && b) x y ≡ x
at_true a b x y e f = rw (e, f) refl

pub option_is : (bytes rest : List ℕ) (option : OptionValue) → option_at bytes ≡ Some (option, rest)
    → IsOption bytes option rest
option_is bytes rest option e =
    let t = at_test (leb 4 (length bytes) && leb (option_len bytes) (length (drop 4 bytes)))
    (the_option bytes, behind bytes) (option, rest) e in
    let h = both _ _ t.0 in
    let same : the_option bytes ≡ option = ap (λ (p : OptionValue × List ℕ). p.0) t.1 in
    record {
      reaches = leb-true 4 (length bytes) h.0;
      code_is = ap (λ (o : OptionValue). o.code) (sym same);
      fits = leb-true (option_len bytes) (length (drop 4 bytes)) h.1;
      data_is = ap (λ (o : OptionValue). o.«data») (sym same);
      rest_is = sym (ap (λ (p : OptionValue × List ℕ). p.1) t.1);
    }

option_with : ℕ → List ℕ → OptionValue
option_with code bytes = record { code = code; «data» = bytes }

same_option : (o p : OptionValue) → o.code ≡ p.code → o.«data» ≡ p.«data» → o ≡ p
unfolding option_with
same_option o p e f =
    ap (λ (c : ℕ). option_with c o.«data») e ∙ ap (λ (d : List ℕ). option_with p.code d) f

pub option_first : (bytes rest : List ℕ) (option : OptionValue) → IsOption bytes option rest
    → option_at bytes ≡ Some (option, rest)
option_first bytes rest option is =
    at_true (leb 4 (length bytes)) (leb (option_len bytes) (length (drop 4 bytes))) _ None
    (le-leb _ _ is.reaches) (le-leb _ _ is.fits)
    ∙ (ap (λ (o : OptionValue). Some (o, behind bytes))
    (same_option (the_option bytes) option (sym is.code_is) (sym is.data_is))
    ∙ ap (λ (r : List ℕ). Some (option, r)) (sym is.rest_is))

pub option_here : (bytes : List ℕ) → 4 ≤ length bytes → option_len bytes ≤ length (drop 4 bytes) → HasOption bytes
option_here bytes reaches fits = (
  the_option bytes,
  behind bytes,
  record { reaches = reaches; code_is = refl; fits = fits; data_is = refl; rest_is = refl },
)

pub option_shrinks : (bytes rest : List ℕ) (option : OptionValue) → IsOption bytes option rest
    → length rest < length bytes
option_shrinks bytes rest option is =
    omega (arith, is.reaches, ap length is.rest_is, length-drop (option_len bytes) (drop 4 bytes), length-drop 4 bytes)

-- ---- why none is at the start

why_at : (enough : Bool) → enough ≡ true → cond enough OptionRefusal.Data OptionRefusal.Fields ≡ OptionRefusal.Data
why_at enough e = rw e refl

why_short : (enough : Bool) → enough ≡ false
    → cond enough OptionRefusal.Data OptionRefusal.Fields ≡ OptionRefusal.Fields
why_short enough e = rw e refl

-- octets have one reason
why_one : (bytes : List ℕ) (why : OptionRefusal) → RefusesOption bytes why → why_none bytes ≡ why
why_one bytes OptionRefusal.Fields short = why_short (leb 4 (length bytes)) (lt-leb 4 (length bytes) short)
why_one bytes OptionRefusal.Data (reaches, cut) = why_at (leb 4 (length bytes)) (le-leb 4 (length bytes) reaches)

pub data_cut : (bytes : List ℕ) → 4 ≤ length bytes → (HasOption bytes → ⊥) → RefusesOption bytes OptionRefusal.Data
data_cut bytes reaches nothing = elim (cases_lt (length (drop 4 bytes)) (option_len bytes)) [
  | inl cut ↦ (reaches, cut)
  | inr fits ↦ absurd (nothing (option_here bytes reaches fits))
]

why_told : (bytes : List ℕ) → (HasOption bytes → ⊥) → RefusesOption bytes (why_none bytes)
why_told bytes nothing = elim (cases_lt (length bytes) 4) [
  | inl short ↦ subst (RefusesOption bytes) (sym (why_one bytes OptionRefusal.Fields short)) short
  | inr reaches ↦
      let told = data_cut bytes reaches nothing in
      subst (RefusesOption bytes) (sym (why_one bytes OptionRefusal.Data told)) told
]

-- ---- answers

-- how an answer came about
pub data Given (bytes : List ℕ) (answer : Answer) (rest : List ℕ) : Type 0 where
  read : (option : OptionValue) → answer ≡ Ok option → IsOption bytes option rest → Given bytes answer rest
  broken : answer ≡ Err (why_none bytes) → rest ≡ [] → 1 ≤ length bytes → option_at bytes ≡ None
      → Given bytes answer rest

same_pair : (p q : Answer × List ℕ) → Some p ≡ Some q → p ≡ q
same_pair p q e = cc

given_by : (bytes rest : List ℕ) (answer : Answer) (o : Option (OptionValue × List ℕ)) → 1 ≤ length bytes
    → option_at bytes ≡ o → answer_by bytes o ≡ Some (answer, rest) → Given bytes answer rest
given_by bytes rest answer None some e f =
    let same = same_pair (answer, rest) (Err (why_none bytes), []) (sym f) in
    broken (ap (λ (p : Answer × List ℕ). p.0) same) (ap (λ (p : Answer × List ℕ). p.1) same) some e
given_by bytes rest answer (Some (option, after)) some e f =
    let same = same_pair (answer, rest) (Ok option, after) (sym f) in
    read option (ap (λ (p : Answer × List ℕ). p.0) same)
    (subst (λ (r : List ℕ). IsOption bytes option r) (sym (ap (λ (p : Answer × List ℕ). p.1) same))
    (option_is bytes after option e))

pub given : (bytes rest : List ℕ) (answer : Answer) → answer_at bytes ≡ Some (answer, rest) → Given bytes answer rest
given [] rest answer e = cc
given (x ∷ xs) rest answer e = given_by (x ∷ xs) rest answer (option_at (x ∷ xs)) (omega arith) refl e

pub answers_shrink : Shrinks answer_at
answers_shrink bytes rest answer e = elim (given bytes rest answer e) [
  | read option f is ↦ option_shrinks bytes rest option is
  | broken f nothing some g ↦ omega (arith, some, ap length nothing)
]

some_answer : {A : Type 0} (bytes : List ℕ) (o : Option (OptionValue × List ℕ)) → answer_by bytes o ≡ None → A
some_answer bytes None e = cc
some_answer bytes (Some (option, rest)) e = cc

pub nothing_left : (bytes : List ℕ) → answer_at bytes ≡ None → bytes ≡ []
nothing_left [] e = refl
nothing_left (x ∷ xs) e = some_answer (x ∷ xs) (option_at (x ∷ xs)) e

-- the next result is an option or a refusal, or there is none
answer_some : (bytes : List ℕ) → 1 ≤ length bytes → answer_at bytes ≡ answer_by bytes (option_at bytes)
answer_some [] some = absurd (omega (arith, some))
answer_some (x ∷ xs) some = refl

pub answers_option : (bytes rest : List ℕ) (option : OptionValue) → IsOption bytes option rest
    → answers_in bytes ≡ Ok option ∷ answers_in rest
answers_option bytes rest option is =
    ahead_some answer_at answers_shrink bytes rest (Ok option)
    (answer_some bytes (omega (arith, is.reaches)) ∙ ap (answer_by bytes) (option_first bytes rest option is))

pub answers_nothing : answers_in [] ≡ []
answers_nothing = ahead_none answer_at answers_shrink [] refl

no_option : (bytes : List ℕ) → (HasOption bytes → ⊥) → option_at bytes ≡ None
no_option bytes nothing = elim (front option_at bytes) [
  | none e ↦ e
  | one option rest e ↦ absurd (nothing (option, rest, option_is bytes rest option e))
]

pub answers_broken : (bytes : List ℕ) (why : OptionRefusal) → 1 ≤ length bytes → (HasOption bytes → ⊥)
    → RefusesOption bytes why → answers_in bytes ≡ Err why ∷ []
answers_broken bytes why some nothing told =
    ahead_some answer_at answers_shrink bytes [] (Err why)
    (answer_some bytes some ∙ (ap (answer_by bytes) (no_option bytes nothing)
    ∙ ap (λ (w : OptionRefusal). Some (Err w, [])) (why_one bytes why told)))
    ∙ ap (λ (more : List Answer). Err why ∷ more) answers_nothing

-- ---- the tiling

pub tile_one : (bytes : List ℕ) (answers : List Answer) → Tile bytes answers → answers ≡ answers_in bytes
tile_one bytes [] tile = sym (ap answers_in tile ∙ answers_nothing)
tile_one bytes (Ok option ∷ answers) (rest, is, more) =
    ap (λ (l : List Answer). Ok option ∷ l) (tile_one rest answers more) ∙ sym (answers_option bytes rest option is)
tile_one bytes (Err why ∷ answers) (some, nothing, told, last) =
    ap (λ (l : List Answer). Err why ∷ l) last ∙ sym (answers_broken bytes why some nothing told)

none_at : (bytes : List ℕ) → option_at bytes ≡ None → HasOption bytes → ⊥
none_at bytes e (option, rest, is) = let f = sym e ∙ option_first bytes rest option is in cc f

tile_turn : (bytes rest : List ℕ) (answer : Answer) → Given bytes answer rest → Tile rest (answers_in rest)
    → Tile bytes (answers_in bytes)
tile_turn bytes rest answer (read option e is) more =
    subst (Tile bytes) (sym (answers_option bytes rest option is)) (rest, is, more)
tile_turn bytes rest answer (broken e last some f) more =
    let nothing = none_at bytes f in
    let told = why_told bytes nothing in
    subst (Tile bytes) (sym (answers_broken bytes (why_none bytes) some nothing told)) (some, nothing, told, refl)

tile_end : (bytes : List ℕ) → answer_at bytes ≡ None → Tile bytes (answers_in bytes)
tile_end bytes e = subst (Tile bytes) (sym (ahead_none answer_at answers_shrink bytes e)) (nothing_left bytes e)

tile_within : (most : ℕ) (bytes : List ℕ) → length bytes ≤ most → Tile bytes (answers_in bytes)
tile_within zero bytes h = elim (front answer_at bytes) [
  | none e ↦ tile_end bytes e
  | one answer rest e ↦ absurd (omega (arith, h, answers_shrink bytes rest answer e))
]
tile_within (suc most) bytes h = elim (front answer_at bytes) [
  | none e ↦ tile_end bytes e
  | one answer rest e ↦
      tile_turn bytes rest answer (given bytes rest answer e)
      (tile_within most rest (omega (arith, h, answers_shrink bytes rest answer e)))
]

pub tile_of : (bytes : List ℕ) → Tile bytes (answers_in bytes)
tile_of bytes = tile_within (length bytes) bytes (omega arith)
