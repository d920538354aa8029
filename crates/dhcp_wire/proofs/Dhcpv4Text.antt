-- The text before the first zero of a field.
use Rattle.dhcp_wire.proofs.Words.{[], ◌++◌, ◌+◌, ◌<◌, ◌∙◌, ◌∷◌, ◌≡◌, ◌≢◌, HasNoZero, IsTextIn, IsUtf8, List, ℕ}
use Rattle.dhcp_wire.proofs.Words.{add-one, ap, arith, drop, drop-cons, get_or, length, length-take-le, refl, subst}
use Rattle.dhcp_wire.proofs.Words.{suc, sym, take, take-append-drop}
use Rattle.std.proofs.Math.Seq.{take-suc}

no_zero-append : (a b : List ℕ) → HasNoZero a → HasNoZero b → HasNoZero (a ++ b)
no_zero-append [] b h k = k
no_zero-append (x ∷ a) b h k = (h.0, no_zero-append a b h.1 k)

-- one more byte
pub no_zero-more : (bytes : List ℕ) (i : ℕ) → i < length bytes → HasNoZero (take i bytes) → get_or bytes i 0 ≢ 0
    → HasNoZero (take (i + 1) bytes)
no_zero-more bytes i l h k =
    subst (λ (n : ℕ). HasNoZero (take n bytes)) (sym (add-one i))
    (subst (λ (b : List ℕ). HasNoZero b) (sym (take-suc bytes i 0 l))
    (no_zero-append (take i bytes) (get_or bytes i 0 ∷ []) h (k, tt)))

-- the first zero is in one place
first_zero : (a b r s : List ℕ) → HasNoZero a → HasNoZero b → a ++ 0 ∷ r ≡ b ++ 0 ∷ s → a ≡ b
first_zero [] [] r s h k e = refl
first_zero [] (y ∷ b) r s h k e = let z : 0 ≡ y = cc in absurd (k.0 (sym z))
first_zero (x ∷ a) [] r s h k e = let z : x ≡ 0 = cc in absurd (h.0 z)
first_zero (x ∷ a) (y ∷ b) r s h k e =
    let first : x ≡ y = cc in
    let rest : a ++ 0 ∷ r ≡ b ++ 0 ∷ s = cc in
    let more : a ≡ b = first_zero a b r s h.1 k.1 rest in
    cc

zero_inside : (a r : List ℕ) → HasNoZero (a ++ 0 ∷ r) → ⊥
zero_inside [] r h = h.0 refl
zero_inside (x ∷ a) r h = zero_inside a r h.1

pub no_text : (bytes text : List ℕ) → HasNoZero bytes → IsTextIn bytes text → ⊥
no_text bytes text h t = zero_inside text t.rest (subst (λ (b : List ℕ). HasNoZero b) t.whole h)

whole_at : (bytes : List ℕ) (count : ℕ) → count < length bytes → get_or bytes count 0 ≡ 0
    → bytes ≡ take count bytes ++ 0 ∷ drop (suc count) bytes
whole_at bytes count l z =
    sym (take-append-drop count bytes) ∙ ap (λ (b : List ℕ). take count bytes ++ b)
    (drop-cons bytes count 0 l ∙ ap (λ (k : ℕ). k ∷ drop (suc count) bytes) z)

pub text-is : (bytes text : List ℕ) (count : ℕ) → count < length bytes → get_or bytes count 0 ≡ 0
    → HasNoZero (take count bytes) → IsTextIn bytes text → text ≡ take count bytes
text-is bytes text count l z h t =
    first_zero text (take count bytes) t.rest (drop (suc count) bytes) t.no_zero h
    (sym t.whole ∙ whole_at bytes count l z)

some_front : (bytes : List ℕ) (count : ℕ) → count < length bytes → count ≢ 0 → take count bytes ≢ []
some_front bytes count l some e = some (sym (length-take-le count bytes (omega arith)) ∙ ap length e)

pub text-in : (bytes : List ℕ) (count : ℕ) → count < length bytes → get_or bytes count 0 ≡ 0
    → HasNoZero (take count bytes) → count ≢ 0 → IsUtf8 (take count bytes) → IsTextIn bytes (take count bytes)
text-in bytes count l z h some utf8 = record {
  rest = drop (suc count) bytes;
  whole = whole_at bytes count l z;
  some = some_front bytes count l some;
  no_zero = h;
  utf8 = utf8;
}
