-- The format of hop-by-hop headers: what was read is canonical, and it is its own normal form.
use Rattle.opt_wire.proofs.Words.{[], ◌++◌, ◌+◌, ◌∙◌, ◌∷◌, ◌≡◌, ◌≢◌, ◌≤◌, Answer, Err, IsBytes, IsFormat, List, Ok}
use Rattle.opt_wire.proofs.Words.{OptionValue, SameText, Tile, ℕ, add-one, ap, arith, be8, breaks, ends, fields}
use Rattle.opt_wire.proofs.Words.{goes_on, length, length-map, length-take, over, over-exact, pad1, refl}
use Rattle.opt_wire.proofs.Words.{round_trips, same_text, subst, suc, sym, take, zero}
use Rattle.std.specs.List.{AllByRecursion}
use Rattle.wirebase.proofs.ByteParts.{IsBytes-front, IsBytes-rest}
use Rattle.opt_wire.specs.Ipv6Option as option
use Rattle.opt_wire.specs.Ipv6Hbh.{text, text_len, HaveData, IsHeader, IsCanonical, norm, format, Emits}
use Rattle.opt_wire.proofs.Ipv6OptionText.{option_text, norm-canonical}
use Rattle.opt_wire.proofs.Ipv6OptionFormat.{option-canonical, option-kept}
use Rattle.opt_wire.proofs.Ipv6HbhGrammar.{all, header-end, header-unique}
use Rattle.opt_wire.proofs.Ipv6HbhText.{text-cons, length-texts, norm-norm, norm-text}

-- ---- what was written

tile-text : (options : List OptionValue) → AllByRecursion option.IsCanonical options
    → Tile (text options) (all (norm options))
unfolding fields
tile-text [] h = ends
tile-text (v ∷ options) h =
    goes_on (option.text v) (text options) (option.norm v) (option_text v h.0) (tile-text options h.1)
    (text-cons v options)

front_some : (v : OptionValue) (rest : List ℕ) → option.text v ++ rest ≢ []
unfolding fields be8
front_some pad1 rest e = cc
front_some _ rest e = cc

texts_some : (options : List OptionValue) → 1 ≤ length options → text options ≢ []
texts_some [] l e = absurd (omega (arith, l))
texts_some (v ∷ options) l e = front_some v (text options) (sym (text-cons v options) ∙ e)

-- the text of canonical options is their header
header-text : (most : ℕ) (options : List OptionValue) → IsCanonical most options
    → IsHeader most (text options) (norm options)
header-text most options c =
    header-end most (text options) (norm options) (all (norm options)) (texts_some options c.some)
    (tile-text options c.each) refl (omega (arith, c.few, length-map options option.norm))

canonical_options : (options : List OptionValue) → AllByRecursion option.IsCanonical options
    → AllByRecursion option.IsCanonical (norm options)
canonical_options [] h = h
canonical_options (v ∷ options) h = (norm-canonical v h.0, canonical_options options h.1)

canonical-norm : (most : ℕ) (options : List OptionValue) → IsCanonical most options → IsCanonical most (norm options)
canonical-norm most options c = record {
  some = omega (arith, c.some, length-map options option.norm);
  few = omega (arith, c.few, length-map options option.norm);
  each = canonical_options options c.each;
}

-- ---- what was read: each of the options that are kept is in the tiling, and there is one at least

each_read : (P : OptionValue → Type 0) → ((w : List ℕ) (v : OptionValue) → IsBytes w → option.IsOption w v → P v)
    → (n : ℕ) (bytes : List ℕ) (answers : List Answer) (read : List OptionValue) → IsBytes bytes → Tile bytes answers
    → take n answers ≡ all read → AllByRecursion P read
each_read P is n bytes answers [] are tile e = tt
each_read P is zero bytes answers (v ∷ read) are tile e = cc
each_read P is (suc n) bytes answers (v ∷ read) are ends e = cc
each_read P is (suc n) bytes answers (v ∷ read) are (goes_on {answers = rests} front rest u h t w) e =
    let same : u ≡ v = cc in
    let more : take n rests ≡ all read = cc in
    let here : IsBytes (front ++ rest) = subst IsBytes w are in (
      subst P same (is front u (IsBytes-front front rest here) h),
      each_read P is n rest rests read (IsBytes-rest front rest here) t more,
    )
each_read P is (suc n) bytes answers (v ∷ read) are (breaks refusal some none) e = cc

each_kept : (P : OptionValue → Type 0) (n : ℕ) (options : List OptionValue) → AllByRecursion P options
    → AllByRecursion P (take n options)
each_kept P zero options h = tt
each_kept P (suc n) [] h = tt
each_kept P (suc n) (v ∷ options) h = (h.0, each_kept P n options h.1)

header-each : (P : OptionValue → Type 0) → ((w : List ℕ) (v : OptionValue) → IsBytes w → option.IsOption w v → P v)
    → (most : ℕ) (bytes : List ℕ) (options : List OptionValue) → IsBytes bytes → IsHeader most bytes options
    → AllByRecursion P options
header-each P is most bytes options are h =
    subst (AllByRecursion P) (sym h.kept)
    (each_kept P most h.read (each_read P is (most + 1) bytes h.answers h.read are h.tile h.good))

some_option : (most : ℕ) (bytes : List ℕ) (answers : List Answer) (read : List OptionValue) → bytes ≢ []
    → Tile bytes answers → take (most + 1) answers ≡ all read → 1 ≤ length read
some_option most bytes answers (v ∷ read) some tile e = omega arith
some_option most bytes answers [] some ends e = absurd (some refl)
some_option most bytes answers [] some (goes_on {answers = rests} front rest u h t w) e =
    let one = ap (λ (n : ℕ). take n (Ok u ∷ rests)) (add-one most) in
    let none : Ok u ∷ take most rests ≡ [] = sym one ∙ e in
    cc
some_option most bytes answers [] some (breaks refusal is none) e =
    let one = ap (λ (n : ℕ). take n (Err refusal ∷ [])) (add-one most) in
    let never : Err refusal ∷ take most [] ≡ [] = sym one ∙ e in
    cc

some_read : (most : ℕ) (bytes : List ℕ) (options : List OptionValue) → 1 ≤ most → IsHeader most bytes options
    → 1 ≤ length options
some_read most bytes options room h =
    let some : 1 ≤ length h.read = some_option most bytes h.answers h.read h.some h.tile h.good in
    omega (arith, some, room, ap length h.kept, length-take {A = OptionValue} most h.read)

header-canonical : (most : ℕ) (bytes : List ℕ) (options : List OptionValue) → 1 ≤ most → IsBytes bytes
    → IsHeader most bytes options → IsCanonical most options
header-canonical most bytes options room are h = record {
  some = some_read most bytes options room h;
  few = omega (arith, ap length h.kept, length-take {A = OptionValue} most h.read);
  each = header-each option.IsCanonical option-canonical most bytes options are h;
}

norm_each : (options : List OptionValue) → AllByRecursion (λ v. option.norm v ≡ v) options → norm options ≡ options
norm_each [] h = refl
norm_each (v ∷ options) h =
    ap (λ (x : OptionValue). x ∷ norm options) h.0 ∙ ap (λ (l : List OptionValue). v ∷ l) (norm_each options h.1)

-- ---- all of it

pub header_format : (most : ℕ) → 1 ≤ most → IsFormat (format most)
header_format most room = record {
  one_value = header-unique most;
  reads_back = λ options filled c. header-text most options c;
  norm_canonical = canonical-norm most;
  norm_norm = norm-norm;
  norm_text = λ options c regular. norm-text options;
  accepted = λ bytes options are small h. header-canonical most bytes options room are h;
  regular = λ bytes options h e. e;
  kept = λ bytes options are c h whole. norm_each options
      (header-each (λ v. option.norm v ≡ v) (λ w v small is. option-kept w v is) most bytes options are h);
}

pub header_same_text : (most : ℕ) → 1 ≤ most → (a b : List OptionValue) → SameText (format most) a b
header_same_text most room a b = same_text (format most) (header_format most room) tt a b

-- what is left where a text was written that there is room for
pub header_emits : (most : ℕ) (options : List OptionValue) (old new : List ℕ) → 1 ≤ most → HaveData options
    → text_len options ≤ length old → new ≡ over old (text options) → Emits most options old new
header_emits most options old new some enough room e =
    let size = length-texts options enough in
    let exact : length old ≡ text_len options → new ≡ text options =
    λ long. e ∙ over-exact old (text options) (long ∙ sym size) in
    record {
      written = e;
      exact = exact;
      reads_back =
          λ canonical long. subst (λ (bytes : List ℕ). IsHeader most bytes (norm options)) (sym (exact long))
          (header-text most options canonical);
      round_trips = round_trips (format most) (header_format most some) options;
    }
