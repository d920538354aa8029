-- The character at the start of a text.
use Rattle.record_wire.proofs.Words.{◌≡◌, ◌+◌, ◌-◌, ◌*◌, ◌<◌, ◌≤◌, ◌⊎◌, ◌&&◌, [], ◌∷◌, ◌++◌, ◌∙◌, Bool, IsCharacter}
use Rattle.record_wire.proofs.Words.{List, None, Option, Some, ℕ, ap, arith, cond, eqb, eqb-true, eqb_tells, false}
use Rattle.record_wire.proofs.Words.{first_byte, inl, inr, is_ascii_digit, is_ascii_graphic, is_special, itself, le-leb}
use Rattle.record_wire.proofs.Words.{leb, leb-true, length, length-append, ltb, ltb-true, not, numbered, quoted, refl}
use Rattle.record_wire.proofs.Words.{sym, true}
use Rattle.std.proofs.lemmas.Bool.{lt-ltb}
use Rattle.record_wire.specs.private.NameReading.{quoted_in, numbered_at, three_digits}

-- which case a test took
pub chosen : {A : Type 0} (b : Bool) (x y z : A) → cond b x y ≡ z → ((b ≡ true) × (x ≡ z)) ⊎ ((b ≡ false) × (y ≡ z))
chosen true x y z e = inl (refl, e)
chosen false x y z e = inr (refl, e)

-- a byte and what follows it
abbrev pub byte_then : ℕ → List ℕ → Option (ℕ × List ℕ)
byte_then byte rest = Some (byte, rest)

same_pair : (p q : ℕ × List ℕ) → Some p ≡ Some q → p ≡ q
same_pair p q e = cc

pub same_byte : (a b : ℕ) (xs ys : List ℕ) → byte_then a xs ≡ byte_then b ys → (a ≡ b) × (xs ≡ ys)
same_byte a b xs ys e =
    let p = same_pair (a, xs) (b, ys) e in (ap (λ (q : ℕ × List ℕ). q.0) p, ap (λ (q : ℕ × List ℕ). q.1) p)

-- a test that gave a byte
pub given : (b : Bool) (n m : ℕ) (xs ys : List ℕ) → cond b (byte_then n xs) None ≡ byte_then m ys
    → (b ≡ true) × (n ≡ m) × (xs ≡ ys)
given true n m xs ys e = let p = same_byte n m xs ys e in (refl, p.0, p.1)
given false n m xs ys e = cc

pub both : (a b : Bool) → (a && b) ≡ true → (a ≡ true) × (b ≡ true)
both true b e = (refl, e)
both false b e = cc

negated : (a : Bool) → not a ≡ true → a ≡ false
negated true e = cc
negated false e = refl

-- a digit is one of ten bytes
pub digit_range : (x : ℕ) → is_ascii_digit x ≡ true → (48 ≤ x) × (x ≤ 57)
digit_range x e =
    let h = both (leb 48 x) (leb x 57) e in (leb-true 48 x h.0, leb-true x 57 h.1)

pub digit_of : (a : ℕ) → a < 10 → is_ascii_digit (48 + a) ≡ true
digit_of a h =
    let low = le-leb 48 (48 + a) (omega arith) in
    let high = le-leb (48 + a) 57 (omega arith) in
    rw (low, high) refl

-- ---- from what is computed to the character

pub record Begins (byte : ℕ) (text rest : List ℕ) : Type 0 where
  pub character : List ℕ
  pub is : IsCharacter byte character
  pub whole : text ≡ character ++ rest

number_character : (x y z byte : ℕ) (more rest : List ℕ) → is_ascii_digit x ≡ true → is_ascii_digit y ≡ true
    → is_ascii_digit z ≡ true → three_digits x y z < 256 → three_digits x y z ≡ byte → more ≡ rest
    → Begins byte (92 ∷ x ∷ y ∷ z ∷ more) rest
number_character x y z byte more rest dx dy dz small e f =
    let rx = digit_range x dx in
    let ry = digit_range y dy in
    let rz = digit_range z dz in
    let ex : x ≡ 48 + (x - 48) = omega (arith, rx.0) in
    let ey : y ≡ 48 + (y - 48) = omega (arith, ry.0) in
    let ez : z ≡ 48 + (z - 48) = omega (arith, rz.0) in
    record {
      character = 92 ∷ (48 + (x - 48)) ∷ (48 + (y - 48)) ∷ (48 + (z - 48)) ∷ [];
      is = numbered (x - 48) (y - 48) (z - 48) (omega (arith, rx.1)) (omega (arith, ry.1)) (omega (arith, rz.1))
          (sym e) (omega (arith, small, e)) refl;
      whole = cc;
    }

numbered_character : (x byte : ℕ) (xs rest : List ℕ) → is_ascii_digit x ≡ true
    → numbered_at x xs ≡ Some (byte, rest) → Begins byte (92 ∷ x ∷ xs) rest
numbered_character x byte [] rest d e = cc
numbered_character x byte (y ∷ []) rest d e = cc
numbered_character x byte (y ∷ z ∷ more) rest d e =
    let g = given (is_ascii_digit y && is_ascii_digit z && ltb (three_digits x y z) 256) _ byte more rest e in
    let h = both _ _ g.0 in
    let k = both _ _ h.0 in
    number_character x y z byte more rest d k.0 k.1 (ltb-true _ _ h.1) g.1 g.2

quoted_character : (byte : ℕ) (xs rest : List ℕ) → quoted_in xs ≡ Some (byte, rest) → Begins byte (92 ∷ xs) rest
quoted_character byte [] rest e = cc
quoted_character byte (x ∷ xs) rest e =
    elim (chosen (is_ascii_digit x) (numbered_at x xs) (cond (is_ascii_graphic x) (byte_then x xs) None)
    (byte_then byte rest) e) [
      | inl h ↦ numbered_character x byte xs rest h.0 h.1
      | inr h ↦
          let g = given (is_ascii_graphic x) x byte xs rest h.1 in
          record {
            character = 92 ∷ byte ∷ [];
            is = quoted (ap is_ascii_graphic (sym g.1) ∙ g.0) (ap is_ascii_digit (sym g.1) ∙ h.0) refl;
            whole = cc;
          }
    ]

pub first_character : (byte : ℕ) (text rest : List ℕ) → first_byte text ≡ Some (byte, rest) → Begins byte text rest
first_character byte [] rest e = cc
first_character byte (x ∷ xs) rest e =
    elim (chosen (eqb x 92) (quoted_in xs) (cond (is_ascii_graphic x && not (is_special x)) (byte_then x xs) None)
    (byte_then byte rest) e) [
      | inl h ↦
          let b = quoted_character byte xs rest h.1 in
          let slash : x ≡ 92 = eqb-true x 92 h.0 in
          record { character = b.character; is = b.is; whole = ap (λ n. n ∷ xs) slash ∙ b.whole }
      | inr h ↦
          let g = given (is_ascii_graphic x && not (is_special x)) x byte xs rest h.1 in
          let k = both (is_ascii_graphic x) (not (is_special x)) g.0 in
          record {
            character = byte ∷ [];
            is = itself (ap is_ascii_graphic (sym g.1) ∙ k.0)
                (ap is_special (sym g.1) ∙ negated (is_special x) k.1) refl;
            whole = cc;
          }
    ]

-- ---- from the character to what is computed

not_backslash : (byte : ℕ) → is_special byte ≡ false → eqb byte 92 ≡ false
not_backslash byte plain =
    elim (eqb_tells byte 92) [
      | inl h ↦ let special : is_special byte ≡ true = ap is_special h.1 in cc (special, plain)
      | inr h ↦ h.0
    ]

plain_test : {A : Type 0} (a b c : Bool) (x y z : A) → a ≡ false → b ≡ true → c ≡ false
    → cond a x (cond (b && not c) y z) ≡ y
plain_test a b c x y z e f g = rw (e, f, g) refl

quoted_test : {A : Type 0} (a b : Bool) (x y z : A) → a ≡ false → b ≡ true → cond a x (cond b y z) ≡ y
quoted_test a b x y z e f = rw (e, f) refl

number_test : {A : Type 0} (a b c d : Bool) (x y z : A) → a ≡ true → b ≡ true → c ≡ true → d ≡ true
    → cond a (cond (b && c && d) x y) z ≡ x
number_test a b c d x y z e f g h = rw (e, f, g, h) refl

digits_value : (a b c byte : ℕ) → byte ≡ 100 * a + 10 * b + c → three_digits (48 + a) (48 + b) (48 + c) ≡ byte
digits_value a b c byte e = omega (arith, e)

pub character_first : (byte : ℕ) (character rest : List ℕ) → IsCharacter byte character
    → first_byte (character ++ rest) ≡ Some (byte, rest)
character_first byte character rest (itself graphic plain e) =
    ap (λ (t : List ℕ). first_byte (t ++ rest)) e
    ∙ plain_test (eqb byte 92) (is_ascii_graphic byte) (is_special byte) (quoted_in rest) (byte_then byte rest) None
    (not_backslash byte plain) graphic plain
character_first byte character rest (quoted graphic no_digit e) =
    ap (λ (t : List ℕ). first_byte (t ++ rest)) e
    ∙ quoted_test (is_ascii_digit byte) (is_ascii_graphic byte) (numbered_at byte rest) (byte_then byte rest) None
    no_digit graphic
character_first byte character rest (numbered a b c ha hb hc value small e) =
    let is = digits_value a b c byte value in
    ap (λ (t : List ℕ). first_byte (t ++ rest)) e
    ∙ (number_test (is_ascii_digit (48 + a)) (is_ascii_digit (48 + b)) (is_ascii_digit (48 + c))
    (ltb (three_digits (48 + a) (48 + b) (48 + c)) 256)
    (byte_then (three_digits (48 + a) (48 + b) (48 + c)) rest) None _ (digit_of a ha) (digit_of b hb) (digit_of c hc)
    (lt-ltb _ _ (omega (arith, is, small)))
    ∙ ap (λ (n : ℕ). byte_then n rest) is)

-- a character takes at least one byte
pub character_some : (byte : ℕ) (character : List ℕ) → IsCharacter byte character → 1 ≤ length character
character_some byte character (itself graphic plain e) = omega (arith, ap length e)
character_some byte character (quoted graphic no_digit e) = omega (arith, ap length e)
character_some byte character (numbered a b c ha hb hc value small e) = omega (arith, ap length e)

pub first_shorter : (byte : ℕ) (text rest : List ℕ) → first_byte text ≡ Some (byte, rest)
    → length rest < length text
first_shorter byte text rest e =
    let b = first_character byte text rest e in
    omega (arith, character_some byte b.character b.is, ap length b.whole, length-append b.character rest)
