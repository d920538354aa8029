-- The strings at the start of octets.
use Rattle.record_wire.proofs.Words.{◌≡◌, ◌≤◌, [], ◌∷◌, ◌++◌, ◌∙◌, Bool, List, None, Option, Some, ℕ, ap, append_assoc}
use Rattle.record_wire.proofs.Words.{arith, cond, drop, false, flat_map, le-leb, leb, leb-true, length, length-append}
use Rattle.record_wire.proofs.Words.{length-take-le, refl, strings_in, subst, suc, sym, take, take-append-drop}
use Rattle.record_wire.proofs.Words.{take-append_seam, true, written, zero}
use Rattle.record_wire.specs.Strings.{HasNoString, AreStringsAhead, first_string}
use Rattle.record_wire.proofs.LabelLists.{drop_seam}
use Rattle.record_wire.proofs.Ahead.{Shrinks, none, one, front, ahead_none, ahead_some}

abbrev string_then : List ℕ → List ℕ → Option (List ℕ × List ℕ)
string_then string rest = Some (string, rest)

same_pair : (p q : List ℕ × List ℕ) → Some p ≡ Some q → p ≡ q
same_pair p q e = cc

at_test : (b : Bool) (x y a c : List ℕ) → cond b (string_then x y) None ≡ string_then a c
    → (b ≡ true) × (x ≡ a) × (y ≡ c)
at_test true x y a c e =
    let p = same_pair (x, y) (a, c) e in
    (refl, ap (λ (q : List ℕ × List ℕ). q.0) p, ap (λ (q : List ℕ × List ℕ). q.1) p)
at_test false x y a c e = cc

pub string_is : (octets string rest : List ℕ) → first_string octets ≡ Some (string, rest)
    → octets ≡ written string ++ rest
string_is [] string rest e = cc
string_is (n ∷ more) string rest e =
    let t = at_test (leb n (length more)) (take n more) (drop n more) string rest e in
    let len : length string ≡ n = ap length (sym t.1) ∙ length-take-le n more (leb-true n (length more) t.0) in
    let parts : more ≡ string ++ rest =
    sym (take-append-drop n more) ∙ (ap (λ a. a ++ drop n more) t.1 ∙ ap (λ a. string ++ a) t.2) in
    ap (λ (m : ℕ). m ∷ more) (sym len) ∙ ap (λ m. length string ∷ m) parts

test_true : {A : Type 0} (b : Bool) (x y : A) → b ≡ true → cond b x y ≡ x
test_true b x y e = rw e refl

pub string_first : (string rest : List ℕ) → first_string (written string ++ rest) ≡ Some (string, rest)
string_first string rest =
    test_true (leb (length string) (length (string ++ rest))) _ None
    (le-leb _ _ (omega (arith, length-append string rest)))
    ∙ (ap (λ (l : List ℕ). string_then l (drop (length string) (string ++ rest))) (take-append_seam string rest)
    ∙ ap (λ (l : List ℕ). string_then string l) (drop_seam string rest))

pub strings_shrink : Shrinks first_string
strings_shrink octets rest string e =
    omega (arith, ap length (string_is octets string rest e), length-append (written string) rest)

-- no string at the start, and conversely
pub no_string : (octets : List ℕ) → first_string octets ≡ None → HasNoString octets
no_string octets e string rest is = let f = ap first_string is ∙ string_first string rest in cc

pub none_first : (octets : List ℕ) → HasNoString octets → first_string octets ≡ None
none_first octets nothing = elim (front first_string octets) [
  | none e ↦ e
  | one string rest e ↦ absurd (nothing string rest (string_is octets string rest e))
]

-- ---- all strings

pub strings_none : (octets : List ℕ) → first_string octets ≡ None → strings_in octets ≡ []
strings_none octets e = ahead_none first_string strings_shrink octets e

pub strings_some : (octets string rest : List ℕ) → first_string octets ≡ Some (string, rest)
    → strings_in octets ≡ string ∷ strings_in rest
strings_some octets string rest e = ahead_some first_string strings_shrink octets rest string e

pub strings_one : (octets : List ℕ) (strings : List (List ℕ)) → AreStringsAhead octets strings
    → strings ≡ strings_in octets
strings_one octets [] are =
    sym (strings_none octets (none_first octets (subst HasNoString (sym are.whole) are.no_more)))
strings_one octets (string ∷ strings) are =
    let behind = flat_map written strings ++ are.rest in
    let whole : octets ≡ written string ++ behind =
    are.whole ∙ append_assoc (written string) (flat_map written strings) are.rest in
    ap (λ ss. string ∷ ss)
    (strings_one behind strings (record { rest = are.rest; whole = refl; no_more = are.no_more }))
    ∙ sym (strings_some octets string behind (ap first_string whole ∙ string_first string behind))

ahead_at_none : (octets : List ℕ) → first_string octets ≡ None → AreStringsAhead octets (strings_in octets)
ahead_at_none octets e =
    subst (AreStringsAhead octets) (sym (strings_none octets e))
    (record { rest = octets; whole = refl; no_more = no_string octets e })

ahead_within : (most : ℕ) (octets : List ℕ) → length octets ≤ most → AreStringsAhead octets (strings_in octets)
ahead_within zero octets h = elim (front first_string octets) [
  | none e ↦ ahead_at_none octets e
  | one string rest e ↦ absurd (omega (arith, h, strings_shrink octets rest string e))
]
ahead_within (suc most) octets h = elim (front first_string octets) [
  | none e ↦ ahead_at_none octets e
  | one string rest e ↦
      let more = ahead_within most rest (omega (arith, strings_shrink octets rest string e, h)) in
      subst (AreStringsAhead octets) (sym (strings_some octets string rest e))
      (record {
        rest = more.rest;
        whole = string_is octets string rest e
            ∙ (ap (λ (l : List ℕ). written string ++ l) more.whole
            ∙ sym (append_assoc (written string) (flat_map written (strings_in rest)) more.rest));
        no_more = more.no_more;
      })
]

pub strings_ahead : (octets : List ℕ) → AreStringsAhead octets (strings_in octets)
strings_ahead octets = ahead_within (length octets) octets (omega arith)
