-- The texts of fields: types of maps of bits, and base64.
use Rattle.record_wire.proofs.Words.{◌≡◌, ◌+◌, ◌-◌, ◌*◌, ◌/◌, ◌%◌, ◌<◌, [], ◌∷◌, ◌++◌, ◌∙◌, Bool, IsAscii, IsAscii-cons}
use Rattle.record_wire.proofs.Words.{IsAscii-nil, List, MapValue, None, Some, ℕ, ap, arith, base64, byte_text, cond}
use Rattle.record_wire.proofs.Words.{false, first_map, flat_map, leb, leb-true, map, map_text, maps_text}
use Rattle.record_wire.proofs.Words.{number_at, refl, sym, true, types_text}
use Rattle.record_wire.specs.private.NameReading.{first_octet, first_group}
use Rattle.record_wire.specs.ZoneText.{base64_digit}
use Rattle.record_wire.proofs.Ahead.{ahead_none, ahead_some}
use Rattle.record_wire.proofs.FieldParts.{maps_shrink}

-- ---- maps of bits

same_octet : (p q : ℕ × List ℕ) → Some p ≡ Some q → p ≡ q
same_octet p q e = cc

pub map_more : (first byte : ℕ) (left rest : List ℕ) → Some (byte, rest) ≡ first_octet left
    → map_text first left ≡ byte_text first byte ++ map_text (number_at first 8) rest
unfolding map_text
map_more first byte [] rest e = cc e
map_more first byte (b ∷ more) rest e =
    let p = same_octet (byte, rest) (b, more) e in
    rw (ap (λ (q : ℕ × List ℕ). q.0) p, ap (λ (q : ℕ × List ℕ). q.1) p) refl

pub map_none : (first : ℕ) (left : List ℕ) → None ≡ first_octet left → map_text first left ≡ []
unfolding map_text
map_none first [] e = refl
map_none first (b ∷ more) e = cc e

pub maps_more : (left rest : List ℕ) (m : MapValue) → first_map left ≡ Some (m, rest)
    → maps_text left ≡ types_text m ++ maps_text rest
maps_more left rest m e =
    ap (λ (maps : List MapValue). flat_map types_text maps) (ahead_some first_map maps_shrink left rest m e)

pub maps_none : (left : List ℕ) → first_map left ≡ None → maps_text left ≡ []
maps_none left e =
    ap (λ (maps : List MapValue). flat_map types_text maps) (ahead_none first_map maps_shrink left e)

-- ---- base64

-- the characters of six bits each
abbrev pub four : ℕ → ℕ → ℕ → ℕ → List ℕ
four a b c d = map base64_digit (a ∷ b ∷ c ∷ d ∷ [])

below : (x y z w v : Bool) (six : ℕ) → (x ≡ true → six < 26) → (y ≡ true → six < 52) → (z ≡ true → six < 62)
    → cond x (65 + six) (cond y (97 + (six - 26)) (cond z (48 + (six - 52)) (cond w 43 (cond v 47 61)))) < 128
below true y z w v six e f g = omega (arith, e refl)
below false true z w v six e f g = omega (arith, f refl)
below false false true w v six e f g = omega (arith, g refl)
below false false false true v six e f g = omega arith
below false false false false true six e f g = omega arith
below false false false false false six e f g = omega arith

digit_small : (six : ℕ) → base64_digit six < 128
unfolding base64_digit
digit_small six =
    below (leb six 25) (leb six 51) (leb six 61) _ _ six (λ e. omega (arith, leb-true six 25 e))
    (λ e. omega (arith, leb-true six 51 e)) (λ e. omega (arith, leb-true six 61 e))

pub four_ascii : (a b c d : ℕ) → IsAscii (four a b c d)
four_ascii a b c d =
    IsAscii-cons (base64_digit a) (base64_digit b ∷ base64_digit c ∷ base64_digit d ∷ []) (digit_small a)
    (IsAscii-cons (base64_digit b) (base64_digit c ∷ base64_digit d ∷ []) (digit_small b)
    (IsAscii-cons (base64_digit c) (base64_digit d ∷ []) (digit_small c)
    (IsAscii-cons (base64_digit d) [] (digit_small d) IsAscii-nil)))

same_group : (p q : ℕ × ℕ × ℕ × List ℕ) → Some p ≡ Some q → p ≡ q
same_group p q e = cc

pub base64_more : (a b c : ℕ) (left rest : List ℕ) → Some (a, b, c, rest) ≡ first_group left
    → base64 left ≡ four (a / 4) (a % 4 * 16 + b / 16) (b % 16 * 4 + c / 64) (c % 64) ++ base64 rest
unfolding base64
base64_more a b c [] rest e = cc e
base64_more a b c (x ∷ []) rest e = cc e
base64_more a b c (x ∷ y ∷ []) rest e = cc e
base64_more a b c (x ∷ y ∷ z ∷ more) rest e =
    let p = same_group (a, b, c, rest) (x, y, z, more) e in
    rw (
      ap (λ (q : ℕ × ℕ × ℕ × List ℕ). q.0) p,
      ap (λ (q : ℕ × ℕ × ℕ × List ℕ). q.1) p,
      ap (λ (q : ℕ × ℕ × ℕ × List ℕ). q.2) p,
      ap (λ (q : ℕ × ℕ × ℕ × List ℕ). q.3) p,
    ) refl

pub base64_none : (left : List ℕ) → None ≡ first_octet left → base64 left ≡ []
unfolding base64
base64_none [] e = refl
base64_none (a ∷ more) e = cc e

pub base64_one : (a : ℕ) (left rest : List ℕ) → Some (a, rest) ≡ first_octet left → None ≡ first_octet rest
    → base64 left ≡ four (a / 4) (a % 4 * 16) 64 64
unfolding base64
base64_one a [] rest e f = cc e
base64_one a (x ∷ more) (y ∷ others) e f = cc f
base64_one a (x ∷ more) [] e f =
    let p = same_octet (a, []) (x, more) e in
    rw (sym (ap (λ (q : ℕ × List ℕ). q.1) p), ap (λ (q : ℕ × List ℕ). q.0) p) refl

pub base64_two : (a b : ℕ) (left rest more : List ℕ) → first_group left ≡ None → Some (a, rest) ≡ first_octet left
    → Some (b, more) ≡ first_octet rest
    → base64 left ≡ four (a / 4) (a % 4 * 16 + b / 16) (b % 16 * 4) 64
unfolding base64
base64_two a b [] rest more none e f = cc e
base64_two a b (x ∷ []) rest more none e f =
    let empty = ap (λ (q : ℕ × List ℕ). q.1) (same_octet (a, rest) (x, []) e) in
    let g = f ∙ ap first_octet empty in cc
base64_two a b (x ∷ y ∷ []) rest more none e f =
    let p = same_octet (a, rest) (x, y ∷ []) e in
    let q = same_octet (b, more) (y, []) (f ∙ ap first_octet (ap (λ (r : ℕ × List ℕ). r.1) p)) in
    rw (ap (λ (r : ℕ × List ℕ). r.0) p, ap (λ (r : ℕ × List ℕ). r.0) q) refl
base64_two a b (x ∷ y ∷ z ∷ others) rest more none e f = cc none
