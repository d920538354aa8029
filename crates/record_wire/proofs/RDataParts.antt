-- The parts of data: names and strings.
use Rattle.record_wire.proofs.Words.{◌≡◌, ◌≤◌, [], ◌∷◌, ◌++◌, ◌∙◌, ◌<◌, AreStrings, Bool, IsSplit, List, None, Some, ℕ}
use Rattle.record_wire.proofs.Words.{ap, append-nil, arith, cond, drop, drop_at, false, flat_map, leb, leb-true, length}
use Rattle.record_wire.proofs.Words.{length-append, length-drop, length-take-le, nil_from_length, refl, string_rest}
use Rattle.record_wire.proofs.Words.{subst, sym, take, take-append-drop, true, written}
use Rattle.std.proofs.lemmas.Bool.{leb-false}
use Rattle.dns_wire.specs.DnsName.{IsOnePart}

-- ---- a name and nothing more

pub whole_split : (bytes : List ℕ) → IsOnePart bytes → IsSplit bytes bytes []
whole_split bytes one = record { name_is = one; whole = sym (append-nil bytes) }

pub split_whole : (bytes name rest : List ℕ) → IsSplit bytes name rest → length rest ≡ 0 → IsOnePart bytes
split_whole bytes name rest split none =
    let empty : rest ≡ [] = nil_from_length rest none in
    let is : bytes ≡ name = split.whole ∙ (ap (λ (r : List ℕ). name ++ r) empty ∙ append-nil name) in
    subst IsOnePart (sym is) split.name_is

-- ---- strings

pub no_strings : AreStrings []
no_strings = ([], refl)

pub string_before : (n : ℕ) (rest : List ℕ) → n ≤ length rest → AreStrings (drop n rest) → AreStrings (n ∷ rest)
string_before n rest fits (strings, is) =
    let len : length (take n rest) ≡ n = length-take-le n rest fits in (
      take n rest ∷ strings,
      ap (λ (m : ℕ). m ∷ rest) (sym len)
          ∙ ap (λ (l : List ℕ). length (take n rest) ∷ l)
          (sym (take-append-drop n rest) ∙ ap (λ (l : List ℕ). take n rest ++ l) is),
    )

-- the first string, and those after it
pub string_first : (n : ℕ) (rest : List ℕ) → AreStrings (n ∷ rest) → (n ≤ length rest) × AreStrings (drop n rest)
string_first n rest ([], is) = cc is
string_first n rest (s ∷ strings, is) =
    let len : n ≡ length s = cc in
    let all : rest ≡ s ++ flat_map written strings = cc in (
      omega (arith, len, ap length all, length-append s (flat_map written strings)),
      (
        strings,
        ap (λ (k : ℕ). drop k rest) len ∙ (ap (λ (l : List ℕ). drop (length s) l) all
            ∙ drop_at s (flat_map written strings) (length s) refl),
      ),
    )

test_some : (b : Bool) (x y : List ℕ) → cond b (Some x) None ≡ Some y → (b ≡ true) × (x ≡ y)
test_some true x y e = (refl, cc e)
test_some false x y e = cc e

test_none : (b : Bool) (x : List ℕ) → cond b (Some x) None ≡ None → b ≡ false
test_none true x e = cc e
test_none false x e = refl

-- octets are strings where those after the first one are, and conversely
pub strings_behind : (left rest : List ℕ) → string_rest left ≡ Some rest
    → (AreStrings rest → AreStrings left) × (AreStrings left → AreStrings rest) × (length rest < length left)
strings_behind [] rest e = cc e
strings_behind (n ∷ more) rest e =
    let t = test_some (leb n (length more)) (drop n more) rest e in (
      λ are. string_before n more (leb-true n (length more) t.0) (subst AreStrings (sym t.1) are),
      λ are. subst AreStrings t.1 (string_first n more are).1,
      omega (arith, ap length t.1, length-drop n more),
    )

pub no_string_first : (left : List ℕ) → string_rest left ≡ None → 1 ≤ length left → AreStrings left → ⊥
no_string_first [] e some are = omega arith
no_string_first (n ∷ more) e some are =
    let long = leb-false n (length more) (test_none (leb n (length more)) (drop n more) e) in
    absurd (omega (arith, long, (string_first n more are).0))
