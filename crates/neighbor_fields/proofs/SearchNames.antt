-- The names of a search list in turn, and the octets of a name.
use Rattle.std.proofs.Common.{◌≡◌, ◌∙◌, ◌+◌, ◌-◌, ◌==◌, ◌≤◌, ◌<◌, [], ◌∷◌, ◌++◌, List, ℕ, ap, arith, codes, drop}
use Rattle.std.proofs.Common.{length, refl, suc, sym, take, zero}
use Rattle.std.proofs.lemmas.Bool.{lt-ltb, le-ltb, ne_eqb}
use Rattle.std.proofs.lemmas.List.{length-drop}
use Rattle.std.specs.Prelude.{if◌then◌else◌, map, slice_index}
use Rattle.neighbor_fields.specs.NdiscTexts.{label_character, len_within, name_len, name_text, names_in, names_up_to}
use Rattle.neighbor_fields.specs.NdiscTexts.{text_within, wrong_padding, wrong_within}

-- ---- an octet of a label, the length of a label, and the empty label

pub wrong_octet : (taken left b : ℕ) (rest : List ℕ) → 0 < left
    → wrong_within taken left (b ∷ rest) ≡ wrong_within taken (left - 1) rest
wrong_octet taken left b rest some = rw (lt-ltb 0 left some) refl

pub wrong_label : (taken left b : ℕ) (rest : List ℕ) → left ≤ 0 → (b ≡ 0 → ⊥) → b ≤ 63 → taken + 1 + b + 1 ≤ 255
    → wrong_within taken left (b ∷ rest) ≡ wrong_within (taken + 1 + b) b rest
wrong_label taken left b rest none some short fits =
    rw (le-ltb 0 left none, ne_eqb b 0 some, le-ltb 63 b short, le-ltb 255 (taken + 1 + b + 1) fits) refl

pub wrong_empty : (taken left b : ℕ) (rest : List ℕ) → left ≤ 0 → b ≡ 0 → (taken ≡ 0 → ⊥)
    → wrong_within taken left (b ∷ rest) ≡ wrong_within 0 left rest
wrong_empty taken zero zero rest none also begun = rw (ne_eqb taken 0 begun) refl
wrong_empty taken (suc left) b rest none also begun = absurd (omega (arith, none))
wrong_empty taken zero (suc b) rest none also begun = absurd (omega (arith, also))

pub wrong_ended : (taken left b : ℕ) (rest : List ℕ) → left ≤ 0 → b ≡ 0 → taken ≡ 0
    → wrong_within taken left (b ∷ rest) ≡ wrong_padding rest
wrong_ended zero zero zero rest none also begun = refl
wrong_ended (suc taken) left b rest none also begun = absurd (omega (arith, begun))
wrong_ended taken (suc left) b rest none also begun = absurd (omega (arith, none))
wrong_ended taken left (suc b) rest none also begun = absurd (omega (arith, also))

pub len_octet : (left b : ℕ) (rest : List ℕ) → 0 < left
    → len_within left (b ∷ rest) ≡ suc (len_within (left - 1) rest)
len_octet left b rest some = rw (lt-ltb 0 left some) refl

pub len_label : (left b : ℕ) (rest : List ℕ) → left ≤ 0 → (b ≡ 0 → ⊥)
    → len_within left (b ∷ rest) ≡ suc (len_within b rest)
len_label left b rest none some = rw (le-ltb 0 left none, ne_eqb b 0 some) refl

pub text_octet : (left b : ℕ) (rest : List ℕ) → 0 < left
    → text_within left (b ∷ rest) ≡ label_character b ++ text_within (left - 1) rest
text_octet left b rest some = rw (lt-ltb 0 left some) refl

pub text_label : (left b : ℕ) (rest : List ℕ) → left ≤ 0
    → text_within left (b ∷ rest) ≡ codes "." ++ text_within b rest
text_label left b rest none = rw (le-ltb 0 left none) refl

-- ---- names

-- a name has an octet or more
some_octets : (b : ℕ) (bs : List ℕ) → 1 ≤ name_len (b ∷ bs)
some_octets zero bs = omega arith
some_octets (suc b) bs = let e = len_label 0 (suc b) bs (omega arith) (λ e. omega (arith, e)) in rw e (omega arith)

-- how many octets do not matter where there are enough for all names
enough : (n m : ℕ) (bytes : List ℕ) → length bytes ≤ n → length bytes ≤ m → names_up_to n bytes ≡ names_up_to m bytes
enough zero zero bytes small also = refl
enough zero (suc m) [] small also = refl
enough zero (suc m) (b ∷ bs) small also = absurd (omega (arith, small))
enough (suc n) zero [] small also = refl
enough (suc n) zero (b ∷ bs) small also = absurd (omega (arith, also))
enough (suc n) (suc m) [] small also = refl
enough (suc n) (suc m) (b ∷ bs) small also =
    let len = name_len (b ∷ bs) in
    let one = some_octets b bs in
    let fewer = length-drop len (b ∷ bs) in
    ap (λ more. if b == 0 then [] else take len (b ∷ bs) ∷ more)
    (enough n m (drop len (b ∷ bs)) (omega (arith, one, fewer, small)) (omega (arith, one, fewer, also)))

front : (most b : ℕ) (bs : List ℕ) → (b ≡ 0 → ⊥)
    → names_up_to (suc most) (b ∷ bs)
    ≡ take (name_len (b ∷ bs)) (b ∷ bs) ∷ names_up_to most (drop (name_len (b ∷ bs)) (b ∷ bs))
front most b bs some = rw (ne_eqb b 0 some) refl

-- the first of them
pub names_first : (bytes name others : List ℕ) → 0 < length bytes → (slice_index bytes 0 ≡ 0 → ⊥)
    → name ≡ take (name_len bytes) bytes → others ≡ drop (name_len bytes) bytes
    → names_in bytes ≡ name_text name ∷ names_in others
names_first [] name others any begun name_is others_is = absurd (omega (arith, any))
names_first (b ∷ bs) name others any begun name_is others_is =
    let one = some_octets b bs in
    let fewer : length others ≡ length (b ∷ bs) - name_len (b ∷ bs) =
    ap length others_is ∙ length-drop (name_len (b ∷ bs)) (b ∷ bs) in
    ap (map name_text)
    (front (length bs) b bs begun
    ∙ ap (λ part. part ∷ names_up_to (length bs) (drop (name_len (b ∷ bs)) (b ∷ bs))) (sym name_is)
    ∙ ap (λ left. name ∷ names_up_to (length bs) left) (sym others_is)
    ∙ ap (λ more. name ∷ more)
    (enough (length bs) (length others) others (omega (arith, one, fewer)) (omega arith)))

-- no name follows
pub no_names : (bytes : List ℕ) → slice_index bytes 0 ≡ 0 → names_in bytes ≡ []
no_names [] none = refl
no_names (zero ∷ bs) none = refl
no_names (suc b ∷ bs) none = absurd (omega (arith, none))
