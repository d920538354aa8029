-- The names of a search list in turn: they are what is computed, and that alone.
use Rattle.std.proofs.Common.{◌≡◌, ℕ, zero, suc, ◌+◌, ◌-◌, ◌≤◌, ◌<◌, Bool, true, false, List, [], ◌∷◌, ◌++◌, length}
use Rattle.std.proofs.Common.{take}
use Rattle.std.proofs.Common.{drop, Ok, Err, Result, refl, sym, ap, subst, ◌∙◌, arith, length-append}
use Rattle.std.specs.Prelude.{nat_le, slice_index}
use Rattle.std.proofs.lemmas.Bool.{leb-true, leb-false}
use Rattle.std.proofs.lemmas.List.{take-append-drop, length-take-le, take_all, take_at, drop_at, length-drop}
use Rattle.std.proofs.lemmas.List.{append_assoc}
use Rattle.neighbor_wire.specs.declared.names.NameRefusal.{NameRefusal}
use Rattle.neighbor_wire.specs.Names.{IsLabelLen, IsName, root, label, Breaks, ended, cut, overlong, behind, Answer}
use Rattle.neighbor_wire.specs.Names.{Stops}
use Rattle.neighbor_wire.specs.Names.{AreNames, stops, goes_on, breaks}
use Rattle.neighbor_wire.specs.private.Names.{more, at_len, walk, after_name, names_within, names_of}

-- ---- the walk over labels

more-more : (a b : ℕ) (r : Result ℕ NameRefusal) → more a (more b r) ≡ more (a + b) r
more-more a b (Ok n) = ap (λ (k : ℕ). Ok k) (omega arith)
more-more a b (Err why) = refl

more-none : (r : Result ℕ NameRefusal) → r ≡ more 0 r
more-none (Ok n) = ap (λ (k : ℕ). Ok k) (omega arith)
more-none (Err why) = refl

skip_one : (k x : ℕ) (bytes : List ℕ) → walk k bytes ≡ more k (walk 0 (drop k bytes))
    → walk (suc k) (x ∷ bytes) ≡ more (suc k) (walk 0 (drop k bytes))
unfolding walk
skip_one k x bytes e = ap (λ (r : Result ℕ NameRefusal). more 1 r) e ∙ more-more 1 k (walk 0 (drop k bytes))
    ∙ ap (λ (j : ℕ). more j (walk 0 (drop k bytes))) (omega arith)

-- past the rest of a label
walk-skip : (k : ℕ) (bytes : List ℕ) → k ≤ length bytes → walk k bytes ≡ more k (walk 0 (drop k bytes))
walk-skip zero bytes room = more-none (walk 0 bytes)
walk-skip (suc k) [] room = absurd (omega (arith, room))
walk-skip (suc k) (x ∷ bytes) room = skip_one k x bytes (walk-skip k bytes (omega (arith, room)))

walk-cut : (k : ℕ) (bytes : List ℕ) → length bytes ≤ k → walk k bytes ≡ Err NameRefusal.Cut
unfolding walk
walk-cut zero [] few = refl
walk-cut zero (x ∷ bytes) few = absurd (omega (arith, few))
walk-cut (suc k) [] few = refl
walk-cut (suc k) (x ∷ bytes) few =
    ap (λ (r : Result ℕ NameRefusal). more 1 r) (walk-cut k bytes (omega (arith, few)))

pub walk-nothing : walk 0 [] ≡ Err NameRefusal.Cut
unfolding walk
walk-nothing = refl

pub walk-root : (rest : List ℕ) → walk 0 (0 ∷ rest) ≡ Ok 1
unfolding walk
walk-root rest = refl

walk-len : (n : ℕ) (rest : List ℕ) → walk 0 (n ∷ rest) ≡ at_len (nat_le n 63) n (walk n rest)
unfolding walk
walk-len n rest = refl

at_label : (n : ℕ) (b : Bool) (r : Result ℕ NameRefusal) → IsLabelLen n → nat_le n 63 ≡ b → at_len b n r ≡ more 1 r
at_label zero b r is e = absurd (omega (arith, is.0))
at_label (suc n) true r is e = refl
at_label (suc n) false r is e = absurd (omega (arith, is.1, leb-false (suc n) 63 e))

at_long : (n : ℕ) (b : Bool) (r : Result ℕ NameRefusal) → 63 < n → nat_le n 63 ≡ b
    → at_len b n r ≡ Err (NameRefusal.Label n)
at_long n true r far e = absurd (omega (arith, far, leb-true n 63 e))
at_long n false r far e = refl

pub walk-long : (n : ℕ) (rest : List ℕ) → 63 < n → walk 0 (n ∷ rest) ≡ Err (NameRefusal.Label n)
walk-long n rest far = walk-len n rest ∙ at_long n _ (walk n rest) far refl

pub walk-label : (n : ℕ) (rest : List ℕ) → IsLabelLen n → n ≤ length rest
    → walk 0 (n ∷ rest) ≡ more (suc n) (walk 0 (drop n rest))
walk-label n rest is room =
    walk-len n rest ∙ at_label n _ (walk n rest) is refl
    ∙ ap (λ (r : Result ℕ NameRefusal). more 1 r) (walk-skip n rest room) ∙ more-more 1 n (walk 0 (drop n rest))
    ∙ ap (λ (j : ℕ). more j (walk 0 (drop n rest))) (omega arith)

pub walk-short : (n : ℕ) (rest : List ℕ) → IsLabelLen n → length rest ≤ n → walk 0 (n ∷ rest) ≡ Err NameRefusal.Cut
walk-short n rest is few =
    walk-len n rest ∙ at_label n _ (walk n rest) is refl
    ∙ ap (λ (r : Result ℕ NameRefusal). more 1 r) (walk-cut n rest few)

-- the same at the front of some bytes
pub front_root : (bytes : List ℕ) → 0 < length bytes → slice_index bytes 0 ≡ 0 → walk 0 bytes ≡ Ok 1
front_root [] some e = absurd (omega (arith, some))
front_root (n ∷ rest) some e = ap (λ (k : ℕ). walk 0 (k ∷ rest)) e ∙ walk-root rest

pub front_long : (bytes : List ℕ) → 0 < length bytes → 63 < slice_index bytes 0
    → walk 0 bytes ≡ Err (NameRefusal.Label (slice_index bytes 0))
front_long [] some far = absurd (omega (arith, some))
front_long (n ∷ rest) some far = walk-long n rest far

pub front_short : (bytes : List ℕ) → 0 < length bytes → IsLabelLen (slice_index bytes 0)
    → length bytes ≤ slice_index bytes 0 → walk 0 bytes ≡ Err NameRefusal.Cut
front_short [] some is few = absurd (omega (arith, some))
front_short (n ∷ rest) some is few = walk-short n rest is (omega (arith, few))

pub front_label : (bytes : List ℕ) → IsLabelLen (slice_index bytes 0) → slice_index bytes 0 < length bytes
    → walk 0 bytes ≡ more (slice_index bytes 0 + 1) (walk 0 (drop (slice_index bytes 0 + 1) bytes))
front_label [] is room = absurd (omega (arith, room))
front_label (n ∷ rest) is room =
    let count : n + 1 ≡ suc n = omega arith in
    rw count (walk-label n rest is (omega (arith, room)))

pub walk-empty : (bytes : List ℕ) → length bytes ≡ 0 → walk 0 bytes ≡ Err NameRefusal.Cut
walk-empty [] e = walk-nothing
walk-empty (n ∷ rest) e = absurd (omega (arith, e))

pub rest_behind : (l : List ℕ) (i : ℕ) → take (length l - i) (drop i l) ≡ drop i l
rest_behind l i = take_all (length l - i) (drop i l) (omega (arith, length-drop i l))

-- one label more that was passed
pub step : (octets rest new : List ℕ) → IsLabelLen (slice_index rest 0) → slice_index rest 0 < length rest
    → new ≡ drop (slice_index rest 0 + 1) rest
    → (length rest ≤ length octets) × (walk 0 octets ≡ more (length octets - length rest) (walk 0 rest))
    → (length new ≤ length octets) × (walk 0 octets ≡ more (length octets - length new) (walk 0 new))
step octets rest new is room e before =
    let n : ℕ = slice_index rest 0 + 1 in
    let shorter : length new ≡ length rest - n = ap (λ (l : List ℕ). length l) e ∙ length-drop n rest in
    let count : length octets - length rest + n ≡ length octets - length new =
    omega (arith, shorter, before.0, room) in (
      omega (arith, shorter, before.0),
      before.1
          ∙ ap (λ (r : Result ℕ NameRefusal). more (length octets - length rest) r) (front_label rest is room)
          ∙ more-more (length octets - length rest) n (walk 0 (drop n rest))
          ∙ ap (λ (k : ℕ). more k (walk 0 (drop n rest))) count
          ∙ ap (λ (l : List ℕ). more (length octets - length new) (walk 0 l)) (sym e),
    )

-- ---- what the walk tells is so

Told : List ℕ → Result ℕ NameRefusal → Type 0
Told bytes (Ok len) =
    (name : List ℕ) × (rest : List ℕ) × IsName name × (length name ≡ len) × (bytes ≡ name ++ rest)
Told bytes (Err why) = Breaks bytes why

told_root : (rest : List ℕ) → Told (0 ∷ rest) (Ok 1)
unfolding Told
told_root rest = (0 ∷ [], rest, root, refl, refl)

told_label : (n : ℕ) (rest : List ℕ) → IsLabelLen n → n ≤ length rest → (r : Result ℕ NameRefusal)
    → Told (drop n rest) r → Told (n ∷ rest) (more (suc n) r)
unfolding Told
told_label n rest is room (Ok len) (name, more_bytes, good, counted, whole) =
    let front : length (take n rest) ≡ n = length-take-le n rest room in (
      n ∷ (take n rest ++ name),
      more_bytes,
      label n (take n rest) name is front good,
      omega (arith, front, counted, length-append (take n rest) name),
      ap (λ (l : List ℕ). n ∷ l)
          (sym (take-append-drop n rest) ∙ ap (λ (l : List ℕ). take n rest ++ l) whole
          ∙ sym (append_assoc (take n rest) name more_bytes)),
    )
told_label n rest is room (Err why) broken =
    subst (λ (l : List ℕ). Breaks (n ∷ l) why) (take-append-drop n rest)
    (behind n (take n rest) (drop n rest) why is (length-take-le n rest room) broken)

told_len : (n : ℕ) (rest : List ℕ) → ((l : List ℕ) → length l ≤ length rest → Told l (walk 0 l)) → (few fits : Bool)
    → nat_le n 63 ≡ few → nat_le n (length rest) ≡ fits → Told (n ∷ rest) (walk 0 (n ∷ rest))
unfolding Told
told_len zero rest go few fits e f =
    subst (λ (r : Result ℕ NameRefusal). Told (0 ∷ rest) r) (sym (walk-root rest)) (told_root rest)
told_len (suc m) rest go false fits e f =
    let far = leb-false (suc m) 63 e in
    subst (λ (r : Result ℕ NameRefusal). Told (suc m ∷ rest) r) (sym (walk-long (suc m) rest far))
    (overlong (suc m) rest far)
told_len (suc m) rest go true true e f =
    let is : IsLabelLen (suc m) = (omega arith, leb-true (suc m) 63 e) in
    let room = leb-true (suc m) (length rest) f in
    subst (λ (r : Result ℕ NameRefusal). Told (suc m ∷ rest) r) (sym (walk-label (suc m) rest is room))
    (told_label (suc m) rest is room (walk 0 (drop (suc m) rest))
    (go (drop (suc m) rest) (omega (arith, length-drop (suc m) rest))))
told_len (suc m) rest go true false e f =
    let is : IsLabelLen (suc m) = (omega arith, leb-true (suc m) 63 e) in
    let less = leb-false (suc m) (length rest) f in
    subst (λ (r : Result ℕ NameRefusal). Told (suc m ∷ rest) r) (sym (walk-short (suc m) rest is (omega (arith, less))))
    (cut (suc m) rest is less)

told_within : (most : ℕ) (bytes : List ℕ) → length bytes ≤ most → Told bytes (walk 0 bytes)
unfolding Told
told_within most [] l = subst (λ (r : Result ℕ NameRefusal). Told [] r) (sym walk-nothing) ended
told_within zero (n ∷ rest) l = absurd (omega (arith, l))
told_within (suc most) (n ∷ rest) l =
    told_len n rest (λ b f. told_within most b (omega (arith, f, l))) (nat_le n 63) (nat_le n (length rest)) refl refl

walk-told : (bytes : List ℕ) (r : Result ℕ NameRefusal) → walk 0 bytes ≡ r → Told bytes r
walk-told bytes r e =
    subst (λ (x : Result ℕ NameRefusal). Told bytes x) e (told_within (length bytes) bytes (omega arith))

-- ---- and what is so, the walk tells

pub walk-name : (name rest : List ℕ) → IsName name → walk 0 (name ++ rest) ≡ Ok (length name)
walk-name _ rest root = walk-root rest
walk-name _ rest (label n octets tail is counted good) =
    let apart : drop n ((octets ++ tail) ++ rest) ≡ tail ++ rest =
    ap (λ (l : List ℕ). drop n l) (append_assoc octets tail rest) ∙ drop_at octets (tail ++ rest) n counted in
    walk-label n ((octets ++ tail) ++ rest) is
    (omega (arith, counted, length-append (octets ++ tail) rest, length-append octets tail))
    ∙ ap (λ (l : List ℕ). more (suc n) (walk 0 l)) apart
    ∙ ap (λ (r : Result ℕ NameRefusal). more (suc n) r) (walk-name tail rest good)
    ∙ ap (λ (k : ℕ). Ok k) (omega (arith, counted, length-append octets tail))

pub walk-breaks : (bytes : List ℕ) (why : NameRefusal) → Breaks bytes why → walk 0 bytes ≡ Err why
walk-breaks _ _ ended = walk-nothing
walk-breaks _ _ (cut n rest is few) = walk-short n rest is (omega (arith, few))
walk-breaks _ _ (overlong n rest far) = walk-long n rest far
walk-breaks _ _ (behind n octets rest why is counted broken) =
    walk-label n (octets ++ rest) is (omega (arith, counted, length-append octets rest))
    ∙ ap (λ (l : List ℕ). more (suc n) (walk 0 l)) (drop_at octets rest n counted)
    ∙ ap (λ (r : Result ℕ NameRefusal). more (suc n) r) (walk-breaks rest why broken)

-- ---- the names

same_len : (a b : ℕ) → ◌≡◌ {A = Result ℕ NameRefusal} (Ok a) (Ok b) → a ≡ b
same_len a b e = cc

ok_err : (a : ℕ) (why : NameRefusal) → ◌≡◌ {A = Result ℕ NameRefusal} (Ok a) (Err why) → ⊥
ok_err a why e = cc

same_why : (a b : NameRefusal) → ◌≡◌ {A = Result ℕ NameRefusal} (Err a) (Err b) → a ≡ b
same_why a b e = cc

walk-front : (bytes name rest : List ℕ) → IsName name → bytes ≡ name ++ rest → walk 0 bytes ≡ Ok (length name)
walk-front bytes name rest is e = ap (λ (l : List ℕ). walk 0 l) e ∙ walk-name name rest is

abbrev refused : NameRefusal → List Answer
refused why = Err why ∷ []

pub names-unique : (bytes : List ℕ) (answers others : List Answer) → AreNames bytes answers → AreNames bytes others
    → answers ≡ others
names-unique bytes answers others (stops s) (stops t) = refl
names-unique bytes answers others (stops s) (goes_on f r n is t e) = absurd (n s)
names-unique bytes answers others (stops s) (breaks why n told) = absurd (n s)
names-unique bytes answers others (goes_on f r n is t e) (stops s) = absurd (n s)
names-unique bytes answers others (goes_on {answers = a} f r n is t e) (goes_on {answers = c} g s m good u i) =
    let len : length f ≡ length g =
    same_len _ _ (sym (walk-front bytes f r is e) ∙ walk-front bytes g s good i) in
    let k : ℕ = length f in
    let fronts : f ≡ g =
    sym (take_at f r k refl) ∙ ap (λ (x : List ℕ). take k x) (sym e ∙ i) ∙ take_at g s k (sym len) in
    let rests : r ≡ s =
    sym (drop_at f r k refl) ∙ ap (λ (x : List ℕ). drop k x) (sym e ∙ i) ∙ drop_at g s k (sym len) in
    let rest : a ≡ c = names-unique r a c t (subst (λ (x : List ℕ). AreNames x c) (sym rests) u) in
    ap (λ (x : List ℕ). Ok x ∷ a) fronts ∙ ap (λ (x : List Answer). Ok g ∷ x) rest
names-unique bytes answers others (goes_on f r n is t e) (breaks why m told) =
    absurd (ok_err _ _ (sym (walk-front bytes f r is e) ∙ walk-breaks bytes why told))
names-unique bytes answers others (breaks why n told) (stops s) = absurd (n s)
names-unique bytes answers others (breaks why n told) (goes_on f r m is t e) =
    absurd (ok_err _ _ (sym (walk-front bytes f r is e) ∙ walk-breaks bytes why told))
names-unique bytes answers others (breaks why n told) (breaks also m said) =
    ap refused (same_why _ _ (sym (walk-breaks bytes why told) ∙ walk-breaks bytes also said))

name-some : (name : List ℕ) → IsName name → 1 ≤ length name
name-some _ root = omega arith
name-some _ (label n octets rest is counted good) = omega arith

names_front : (most : ℕ) (bytes : List ℕ)
    → ((rest : List ℕ) → length rest ≤ most → AreNames rest (names_within most rest)) → (Stops bytes → ⊥)
    → length bytes ≤ suc most → (r : Result ℕ NameRefusal) → Told bytes r
    → AreNames bytes (after_name r bytes (names_within most))
unfolding Told
names_front most bytes go none l (Err why) broken = breaks why none broken
names_front most bytes go none l (Ok len) (name, rest, is, counted, whole) =
    let front : name ≡ take len bytes =
    sym (ap (λ (x : List ℕ). take len x) whole ∙ take_at name rest len counted) in
    let fewer : length (drop len bytes) ≤ most =
    omega (arith, l, counted, name-some name is, length-drop len bytes) in
    goes_on (take len bytes) (drop len bytes) none (subst (λ (x : List ℕ). IsName x) front is)
    (go (drop len bytes) fewer) (sym (take-append-drop len bytes))

not_stopped : (n : ℕ) (rest : List ℕ) → Stops (suc n ∷ rest) → ⊥
not_stopped n rest e = omega (arith, e)

all_within : (most : ℕ) (bytes : List ℕ) → length bytes ≤ most → AreNames bytes (names_within most bytes)
unfolding names_within
all_within most [] l = stops tt
all_within zero (n ∷ rest) l = absurd (omega (arith, l))
all_within (suc most) (zero ∷ rest) l = stops refl
all_within (suc most) (suc n ∷ rest) l =
    names_front most (suc n ∷ rest) (λ b f. all_within most b f) (not_stopped n rest) l (walk 0 (suc n ∷ rest))
    (walk-told (suc n ∷ rest) _ refl)

pub names_in : (bytes : List ℕ) → AreNames bytes (names_of bytes)
names_in bytes = all_within (length bytes) bytes (omega arith)

-- ---- what a call of `next` gives

pub next-end : (bytes : List ℕ) → Stops bytes → names_of bytes ≡ []
next-end bytes s = names-unique bytes _ _ (names_in bytes) (stops s)

pub next-name : (bytes name rest : List ℕ) (len : ℕ) → (Stops bytes → ⊥) → walk 0 bytes ≡ Ok len
    → name ≡ take len bytes → rest ≡ drop len bytes → names_of bytes ≡ Ok name ∷ names_of rest
unfolding Told
next-name bytes name rest len none e front back =
    let told = walk-told bytes (Ok len) e in
    let same : told.0 ≡ name =
    sym (front ∙ ap (λ (x : List ℕ). take len x) told.4 ∙ take_at told.0 told.1 len told.3) in
    let whole : bytes ≡ name ++ rest =
    sym (take-append-drop len bytes) ∙ ap (λ (x : List ℕ). x ++ drop len bytes) (sym front)
    ∙ ap (λ (x : List ℕ). name ++ x) (sym back) in
    names-unique bytes _ _ (names_in bytes)
    (goes_on name rest none (subst (λ (x : List ℕ). IsName x) same told.2) (names_in rest) whole)

pub next-refusal : (bytes : List ℕ) (why : NameRefusal) → (Stops bytes → ⊥) → walk 0 bytes ≡ Err why
    → names_of bytes ≡ Err why ∷ names_of []
unfolding Told
next-refusal bytes why none e =
    names-unique bytes _ _ (names_in bytes) (breaks why none (walk-told bytes (Err why) e))
    ∙ ap (λ (x : List Answer). Err why ∷ x) (sym (next-end [] tt))
