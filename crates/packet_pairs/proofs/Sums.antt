-- Questions and the sums of their keys.
use Rattle.std.proofs.Common.{◌≡◌, ◌≢◌, ◌+◌, ◌==◌, ◌++◌, ◌||◌, ◌∙◌, [], ◌∷◌, Bool, IsSome, List, None, OnSome, Option, Some}
use Rattle.std.proofs.Common.{ap, arith, cond, drop, false, get_or, map, refl, rules, set, subst, suc, sym, take, true, zero, ℕ}
use Rattle.std.proofs.lemmas.List.{drop-map, map-append, map-set, set-get_or, take-map}
use Rattle.std.specs.List.{list_any, position_from, remove}
use Rattle.packet_pairs.specs.Key.{KeyValue, key_of}
use Rattle.packet_pairs.specs.Pairs.{AskedValue, IsUnknown, asked_again, asked_of}
use Rattle.packet_pairs.specs.Types.{Asked}
use Rattle.packet_pairs.specs.private.Sums.{sum_in, sum_of}

-- ---- the place of a sum

none_step : (b rest : Bool) (i : ℕ) (r : Option ℕ) → (b || rest) ≡ false → (rest ≡ false → r ≡ None)
    → cond b (Some i) r ≡ None
none_step true rest i r h f = let never : true ≡ false = h in cc
none_step false rest i r h f = f h

pub no_place : (sum : ℕ) (sums : List ℕ) (i : ℕ) → list_any (λ other. other == sum) sums ≡ false
    → position_from (λ other. other == sum) i sums ≡ None
no_place sum [] i h = refl
no_place sum (x ∷ xs) i h =
    none_step (x == sum) (list_any (λ other. other == sum) xs) i (position_from (λ other. other == sum) (i + 1) xs) h
    (no_place sum xs (i + 1))

-- ---- keys with other sums are other keys

other_key : (key : KeyValue) (q : Asked) → (sum_in q == sum_of key) ≡ false → key_of q.key ≢ key
other_key key q h e =
    let other : (sum_of key == sum_of key) ≡ false = subst (λ k. (sum_of k == sum_of key) ≡ false) e h in
    let same : (sum_of key == sum_of key) ≡ true = search rules in
    let never : true ≡ false = sym same ∙ other in cc

record IsLater (b : Bool) (r found : Option ℕ) : Type 0 where
  other : b ≡ false
  later : r ≡ found

later_none : (b : Bool) (i : ℕ) (r : Option ℕ) → cond b (Some i) r ≡ None → IsLater b r None
later_none true i r h = let never : Some i ≡ None = h in absurd (cc)
later_none false i r h = record { other = refl; later = h }

abbrev number_in : Option ℕ → ℕ
number_in None = 0
number_in (Some n) = n

later_some : (b : Bool) (i k : ℕ) (r : Option ℕ) → cond b (Some i) r ≡ Some (i + suc k)
    → IsLater b r (Some (i + 1 + k))
later_some true i k r h = let never : i ≡ i + suc k = ap number_in h in absurd (omega (arith, never))
later_some false i k r h =
    let same : i + suc k ≡ i + 1 + k = omega arith in record { other = refl; later = h ∙ ap Some same }

none_from : (key : KeyValue) (items : List Asked) (i : ℕ)
    → position_from (λ other. other == sum_of key) i (map sum_in items) ≡ None → IsUnknown key (map asked_of items)
none_from key [] i h = tt
none_from key (q ∷ qs) i h =
    let l = later_none (sum_in q == sum_of key) i
    (position_from (λ other. other == sum_of key) (i + 1) (map sum_in qs)) h in
    (other_key key q l.other, none_from key qs (i + 1) l.later)

some_from : (key : KeyValue) (items : List Asked) (i k : ℕ)
    → position_from (λ other. other == sum_of key) i (map sum_in items) ≡ Some (i + k)
    → IsUnknown key (map asked_of (take k items))
some_from key items i zero h = tt
some_from key [] i (suc k) h = tt
some_from key (q ∷ qs) i (suc k) h =
    let l = later_some (sum_in q == sum_of key) i k
    (position_from (λ other. other == sum_of key) (i + 1) (map sum_in qs)) h in
    (other_key key q l.other, some_from key qs (i + 1) k l.later)

same_place : (key : KeyValue) (items : List Asked) (sums : List ℕ) (sum : ℕ) (place : Option ℕ)
    → sums ≡ map sum_in items → sum ≡ sum_of key → place ≡ position_from (λ other. other == sum) 0 sums
    → position_from (λ other. other == sum_of key) 0 (map sum_in items) ≡ place
same_place key items sums sum place e f h =
    sym (h
    ∙ ap (λ (l : List ℕ). position_from (λ other. other == sum) 0 l) e
    ∙ ap (λ (s : ℕ). position_from (λ other. other == s) 0 (map sum_in items)) f)

-- none of the sums is that of the key
pub none_with : (key : KeyValue) (items : List Asked) (sums : List ℕ) (sum : ℕ) (place : Option ℕ)
    → sums ≡ map sum_in items → sum ≡ sum_of key → place ≡ position_from (λ other. other == sum) 0 sums
    → place ≡ None → IsUnknown key (map asked_of items)
none_with key items sums sum place e f h none =
    none_from key items 0 (same_place key items sums sum place e f h ∙ none)

-- none of the sums before this place is
pub none_before : (key : KeyValue) (items : List Asked) (sums : List ℕ) (sum i : ℕ) (place : Option ℕ)
    → sums ≡ map sum_in items → sum ≡ sum_of key → place ≡ position_from (λ other. other == sum) 0 sums
    → place ≡ Some i → IsUnknown key (map asked_of (take i items))
none_before key items sums sum i place e f h some =
    let start : i ≡ 0 + i = omega arith in
    some_from key items 0 i (same_place key items sums sum place e f h ∙ some ∙ ap Some start)

-- ---- the sums stay those of the questions

-- one is asked again
pub same_sums : (items : List Asked) (sums : List ℕ) (place : ℕ) (x other : Asked) → sums ≡ map sum_in items
    → x ≡ get_or items place x → asked_of other ≡ asked_again (asked_of x) → sums ≡ map sum_in (set items place other)
same_sums items sums place x other e at again =
    e
    ∙ ap (map sum_in) (sym (set-get_or items place x) ∙ ap (set items place) (sym at))
    ∙ map-set sum_in items place x
    ∙ ap (λ (q : AskedValue). set (map sum_in items) place (sum_of q.key)) (sym again)
    ∙ sym (map-set sum_in items place other)

-- one is taken out
pub removed_sums : (r : Option ℕ) (items left : List Asked) (old sums : List ℕ) (place : ℕ) → old ≡ map sum_in items
    → left ≡ remove items place → IsSome r → OnSome r (sums ≡ remove old place) → sums ≡ map sum_in left
removed_sums None items left old sums place e l some s = let never : false ≡ true = some in absurd (cc)
removed_sums (Some sum) items left old sums place e l some s =
    s
    ∙ ap (λ (o : List ℕ). remove o place) e
    ∙ ap (λ (o : List ℕ). o ++ drop (suc place) (map sum_in items)) (take-map sum_in place items)
    ∙ ap (λ (o : List ℕ). map sum_in (take place items) ++ o) (drop-map sum_in (suc place) items)
    ∙ sym (map-append sum_in (take place items) (drop (suc place) items))
    ∙ ap (map sum_in) (sym l)
