-- The fields before names and after them.
use Rattle.record_wire.proofs.Words.{◌≡◌, ◌-◌, ◌<◌, ◌≤◌, ◌⊎◌, ◌&&◌, [], ◌∷◌, ◌++◌, ◌∙◌, AllByRecursion, AreMaps}
use Rattle.record_wire.proofs.Words.{AreThree, Bool, DataRefusal, IsRest, IsSplit, List, MapValue, None, Option}
use Rattle.record_wire.proofs.Words.{RestValue, Some, ℕ, ap, append_assoc, arith, cases_lt, cond, drop, false}
use Rattle.record_wire.proofs.Words.{first_map, flat_map, inl, inr, le-leb, leb, leb-true, length, length-append}
use Rattle.record_wire.proofs.Words.{length-take-le, number_of, refl, string_rest, subst, sym, take}
use Rattle.record_wire.proofs.Words.{take-append-drop, take-append_seam, true, written}
use Rattle.record_wire.specs.Fields.{FrontValue, no_front, numbered, rule, signs, number_field, order_field}
use Rattle.record_wire.specs.Fields.{preference_field, signature_in, IsFront, IsSecond, no_rest, signature, one_map}
use Rattle.record_wire.specs.Fields.{all_maps, IsTypesMap, map_bytes}
use Rattle.record_wire.specs.RDataRefusal.{RefusesFront, RefusesRest}
use Rattle.record_wire.specs.declared.rdata.fields.FrontForm.{FrontForm}
use Rattle.record_wire.specs.declared.rdata.fields.RestForm.{RestForm}
use Rattle.record_wire.proofs.Ahead.{Shrinks}
use Rattle.record_wire.proofs.LabelLists.{drop_seam}

-- ---- three strings

test_some : (b : Bool) (x y : List ℕ) → cond b (Some x) None ≡ Some y → (b ≡ true) × (x ≡ y)
test_some true x y e = (refl, cc e)
test_some false x y e = cc e

string_split : (bytes rest : List ℕ) → string_rest bytes ≡ Some rest
    → (string : List ℕ) × (bytes ≡ written string ++ rest)
string_split [] rest e = cc e
string_split (n ∷ more) rest e =
    let t = test_some (leb n (length more)) (drop n more) rest e in
    let len : length (take n more) ≡ n = length-take-le n more (leb-true n (length more) t.0) in
    let parts : more ≡ take n more ++ rest =
    sym (take-append-drop n more) ∙ ap (λ (l : List ℕ). take n more ++ l) t.1 in (
      take n more,
      ap (λ (m : ℕ). m ∷ more) (sym len) ∙ ap (λ (l : List ℕ). length (take n more) ∷ l) parts,
    )

take_front : (whole front rest : List ℕ) → whole ≡ front ++ rest → take (length whole - length rest) whole ≡ front
take_front whole front rest e =
    let len : length whole - length rest ≡ length front =
    omega (arith, ap length e, length-append front rest) in
    ap (λ (n : ℕ). take n whole) len
    ∙ (ap (λ (l : List ℕ). take (length front) l) e ∙ take-append_seam front rest)

pub three_strings : (bytes second third rest : List ℕ) → string_rest bytes ≡ Some second
    → string_rest second ≡ Some third → string_rest third ≡ Some rest
    → AreThree bytes (take (length bytes - length rest) bytes) rest
three_strings bytes second third rest e f g =
    let a = string_split bytes second e in
    let b = string_split second third f in
    let c = string_split third rest g in
    let strings = written a.0 ++ (written b.0 ++ written c.0) in
    let behind : second ≡ (written b.0 ++ written c.0) ++ rest =
    b.1 ∙ (ap (λ (l : List ℕ). written b.0 ++ l) c.1 ∙ sym (append_assoc (written b.0) (written c.0) rest)) in
    let whole : bytes ≡ strings ++ rest =
    a.1 ∙ (ap (λ (l : List ℕ). written a.0 ++ l) behind
    ∙ sym (append_assoc (written a.0) (written b.0 ++ written c.0) rest)) in
    let front = take_front bytes strings rest whole in
    record {
      flags = a.0;
      services = b.0;
      expression = c.0;
      are = front;
      whole = whole ∙ ap (λ (l : List ℕ). l ++ rest) (sym front);
    }

-- ---- what is refused before a name

pub refused_rule : (form : FrontForm) (bytes : List ℕ) → form ≡ FrontForm.Rule → 4 ≤ length bytes
    → ((value : FrontValue) (rest : List ℕ) → IsFront form bytes value rest → ⊥)
    → RefusesFront form bytes DataRefusal.String
refused_rule FrontForm.Nothing bytes e fits none = cc e
refused_rule FrontForm.Number bytes e fits none = cc e
refused_rule FrontForm.Signed bytes e fits none = cc e
refused_rule FrontForm.Rule bytes e fits none = (
  fits,
  λ strings rest three.
      none (rule (number_of order_field bytes) (number_of preference_field bytes) strings) rest
      (record { strings = strings; reaches = fits; three = three; is = refl }),
)

-- a form other than a rule
abbrev IsOther : FrontForm → Type 0
IsOther form = (form ≡ FrontForm.Nothing) ⊎ ((form ≡ FrontForm.Number) ⊎ (form ≡ FrontForm.Signed))

no_rule : IsOther FrontForm.Rule → ⊥
no_rule (inl e) = cc e
no_rule (inr (inl e)) = cc e
no_rule (inr (inr e)) = cc e

pub refused_numbers : (form : FrontForm) (bytes : List ℕ) → IsOther form
    → ((value : FrontValue) (rest : List ℕ) → IsFront form bytes value rest → ⊥)
    → RefusesFront form bytes DataRefusal.Numbers
refused_numbers FrontForm.Nothing bytes other none = absurd (none no_front bytes (refl, refl))
refused_numbers FrontForm.Number bytes other none = elim (cases_lt (length bytes) 2) [
  | inl less ↦ less
  | inr fits ↦
      absurd (none (numbered (number_of number_field bytes)) (drop 2 bytes)
      (record { reaches = fits; is = refl; rest_is = refl }))
]
refused_numbers FrontForm.Rule bytes other none = absurd (no_rule other)
refused_numbers FrontForm.Signed bytes other none = elim (cases_lt (length bytes) 18) [
  | inl less ↦ less
  | inr fits ↦
      absurd (none (signs (signature_in bytes)) (drop 18 bytes)
      (record { reaches = fits; is = refl; rest_is = refl }))
]

-- ---- what is refused after it

pub no_second : (two : Bool) (bytes : List ℕ)
    → ((value : Option (List ℕ)) (rest : List ℕ) → IsSecond two bytes value rest → ⊥)
    → (two ≡ true) × ((name rest : List ℕ) → IsSplit bytes name rest → ⊥)
no_second false bytes none = absurd (none None bytes (refl, refl))
no_second true bytes none = (refl, λ name rest split. none (Some name) rest (name, refl, split))

pub refused_types : (form : RestForm) (bytes : List ℕ) → (form ≡ RestForm.Bits) ⊎ (form ≡ RestForm.Types)
    → ((value : RestValue) → IsRest form bytes value → ⊥) → RefusesRest form bytes DataRefusal.Types
refused_types RestForm.Nothing bytes (inl e) none = cc e
refused_types RestForm.Nothing bytes (inr e) none = cc e
refused_types RestForm.Signature bytes (inl e) none = cc e
refused_types RestForm.Signature bytes (inr e) none = cc e
refused_types RestForm.Bits bytes e none = λ map. none (one_map bytes) (map, refl)
refused_types RestForm.Types bytes e none = λ maps. none (all_maps bytes) (maps, refl)

some_bytes : (bytes : List ℕ) → (bytes ≡ [] → ⊥) → 1 ≤ length bytes
some_bytes [] none = absurd (none refl)
some_bytes (byte ∷ rest) none = omega arith

pub refused_bytes : (form : RestForm) (bytes : List ℕ) → (form ≡ RestForm.Nothing) ⊎ (form ≡ RestForm.Signature)
    → ((value : RestValue) → IsRest form bytes value → ⊥) → RefusesRest form bytes DataRefusal.BehindName
refused_bytes RestForm.Nothing bytes e none = some_bytes bytes (λ is. none no_rest (is, refl))
refused_bytes RestForm.Signature bytes e none = absurd (none (signature bytes) refl)
refused_bytes RestForm.Bits bytes (inl e) none = cc e
refused_bytes RestForm.Bits bytes (inr e) none = cc e
refused_bytes RestForm.Types bytes (inl e) none = cc e
refused_bytes RestForm.Types bytes (inr e) none = cc e

-- ---- maps of bits

abbrev map_then : ℕ → List ℕ → List ℕ → Option (MapValue × List ℕ)
map_then upper map rest = Some (record { upper = upper; map = map }, rest)

same_pair : (p q : MapValue × List ℕ) → Some p ≡ Some q → p ≡ q
same_pair p q e = cc

at_test : (b : Bool) (upper : ℕ) (map more : List ℕ) (m : MapValue) (rest : List ℕ)
    → cond b (map_then upper map more) None ≡ Some (m, rest)
    → (b ≡ true) × (m ≡ record { upper = upper; map = map }) × (more ≡ rest)
at_test true upper map more m rest e =
    let value : MapValue = record { upper = upper; map = map } in
    let p = same_pair (value, more) (m, rest) e in
    (refl, sym (ap (λ (q : MapValue × List ℕ). q.0) p), ap (λ (q : MapValue × List ℕ). q.1) p)
at_test false upper map more m rest e = cc e

-- a map of this many bytes fits
abbrev fits : ℕ → List ℕ → Bool
fits n rest = leb 1 n && leb n 32 && leb n (length rest)

three_parts : (a b c : Bool) → (a && b && c) ≡ true → (a ≡ true) × (b ≡ true) × (c ≡ true)
three_parts true true true e = (refl, refl, refl)
three_parts true true false e = cc e
three_parts true false c e = cc e
three_parts false b c e = cc e

three_whole : (a b c : Bool) → a ≡ true → b ≡ true → c ≡ true → (a && b && c) ≡ true
three_whole a b c e f g = rw (e, f, g) refl

pub map_is : (left : List ℕ) (m : MapValue) (rest : List ℕ) → first_map left ≡ Some (m, rest)
    → (left ≡ map_bytes m ++ rest) × IsTypesMap m
map_is [] m rest e = cc e
map_is (upper ∷ []) m rest e = cc e
map_is (upper ∷ n ∷ more) m rest e =
    let t = at_test (fits n more) upper (take n more) (drop n more) m rest e in
    let p = three_parts (leb 1 n) (leb n 32) (leb n (length more)) t.0 in
    let len : length (take n more) ≡ n = length-take-le n more (leb-true n (length more) p.2) in
    let least = leb-true 1 n p.0 in
    let most = leb-true n 32 p.1 in
    let value : MapValue = record { upper = upper; map = take n more } in
    let is : upper ∷ n ∷ more ≡ map_bytes value ++ rest =
    ap (λ (k : ℕ). upper ∷ k ∷ more) (sym len)
    ∙ ap (λ (l : List ℕ). upper ∷ length (take n more) ∷ l)
    (sym (take-append-drop n more) ∙ ap (λ (l : List ℕ). take n more ++ l) t.2) in
    let good : IsTypesMap value = record { some = omega (arith, len, least); most = omega (arith, len, most) } in (
      is ∙ ap (λ (v : MapValue). map_bytes v ++ rest) (sym t.1),
      subst IsTypesMap (sym t.1) good,
    )

test_true : {A : Type 0} (b : Bool) (x y : A) → b ≡ true → cond b x y ≡ x
test_true b x y e = rw e refl

pub map_first : (m : MapValue) (rest : List ℕ) → IsTypesMap m → first_map (map_bytes m ++ rest) ≡ Some (m, rest)
map_first m rest good =
    let n = length m.map in
    test_true (fits n (m.map ++ rest)) (map_then m.upper (take n (m.map ++ rest)) (drop n (m.map ++ rest))) None
    (three_whole (leb 1 n) (leb n 32) (leb n (length (m.map ++ rest))) (le-leb 1 n good.some) (le-leb n 32 good.most)
    (le-leb n (length (m.map ++ rest)) (omega (arith, length-append m.map rest))))
    ∙ (ap (λ (l : List ℕ). map_then m.upper l (drop n (m.map ++ rest))) (take-append_seam m.map rest)
    ∙ ap (λ (l : List ℕ). map_then m.upper m.map l) (drop_seam m.map rest))

pub maps_shrink : Shrinks first_map
maps_shrink octets rest m e =
    omega (arith, ap length (map_is octets m rest e).0, length-append (map_bytes m) rest)

same_rest : (p q : MapValue × List ℕ) → Some p ≡ Some q → p.1 ≡ q.1
same_rest p q e = ap (λ (r : MapValue × List ℕ). r.1) (same_pair p q e)

maps_after : (left : List ℕ) (m : MapValue) (rest : List ℕ) (maps : List MapValue) → first_map left ≡ Some (m, rest)
    → AllByRecursion IsTypesMap maps → left ≡ flat_map map_bytes maps → AreMaps rest
maps_after left m rest [] e each whole = let f = ap first_map whole in cc
maps_after left m rest (n ∷ maps) e (good, each) whole =
    let f = sym e ∙ (ap first_map whole ∙ map_first n (flat_map map_bytes maps) good) in
    record { maps = maps; each = each; whole = same_rest (m, rest) (n, flat_map map_bytes maps) f }

-- octets are maps where those after the first one are, and conversely
pub maps_behind : (left : List ℕ) (m : MapValue) (rest : List ℕ) → first_map left ≡ Some (m, rest)
    → (AreMaps rest → AreMaps left) × (AreMaps left → AreMaps rest) × (length rest < length left)
maps_behind left m rest e =
    let is = map_is left m rest e in (
      λ are. record {
        maps = m ∷ are.maps;
        each = (is.1, are.each);
        whole = is.0 ∙ ap (λ (l : List ℕ). map_bytes m ++ l) are.whole;
      },
      λ are. maps_after left m rest are.maps e are.each are.whole,
      maps_shrink left rest m e,
    )

none_of : (left : List ℕ) (maps : List MapValue) → first_map left ≡ None → 1 ≤ length left
    → AllByRecursion IsTypesMap maps → left ≡ flat_map map_bytes maps → ⊥
none_of left [] e some each whole = omega (arith, some, ap length whole)
none_of left (n ∷ maps) e some (good, each) whole =
    let f = sym e ∙ (ap first_map whole ∙ map_first n (flat_map map_bytes maps) good) in cc

pub no_map_first : (left : List ℕ) → first_map left ≡ None → 1 ≤ length left → AreMaps left → ⊥
no_map_first left e some are = none_of left are.maps e some are.each are.whole
