-- Hop-by-hop headers against the tiling of their bytes.
use Rattle.opt_wire.proofs.Words.{[], ◌++◌, ◌+◌, ◌∙◌, ◌∷◌, ◌≡◌, ◌≢◌, ◌≤◌, Answer, Err, Error, List, Ok, OptionValue}
use Rattle.opt_wire.proofs.Words.{Tile, ℕ, add-one, ap, append_assoc, arith, length, length-append, length-map, map}
use Rattle.opt_wire.proofs.Words.{map-append, refl, suc, sym, take, take_all, take_at, zero}
use Rattle.opt_wire.specs.Ipv6Hbh.{IsHeader}
use Rattle.opt_wire.proofs.Ipv6OptionTiles.{tile-unique}

-- answers without a refusal
abbrev pub all : List OptionValue → List Answer
all options = map Ok options

-- all options were read
pub header-end : (most : ℕ) (bytes : List ℕ) (options : List OptionValue) (answers : List Answer) → bytes ≢ []
    → Tile bytes answers → answers ≡ all options → length options ≤ most → IsHeader most bytes options
header-end most bytes options answers some tile e l = record {
  answers = answers;
  read = options;
  some = some;
  tile = tile;
  good = ap (take (most + 1)) e
      ∙ take_all (most + 1) (all options) (omega (arith, l, length-map {B = Answer} options Ok));
  kept = sym (take_all most options l);
}

-- one more than are kept was read
pub header-full : (most : ℕ) (bytes : List ℕ) (options : List OptionValue) (v : OptionValue)
    (answers rest : List Answer)
    → bytes ≢ [] → Tile bytes answers → answers ≡ all options ++ (Ok v ∷ rest) → length options ≡ most
    → IsHeader most bytes options
header-full most bytes options v answers rest some tile e l =
    let read : List OptionValue = options ++ (v ∷ []) in
    let long : length (all read) ≡ most + 1 = length-map {B = Answer} read Ok ∙ length-append options (v ∷ [])
    ∙ ap (λ (n : ℕ). n + 1) l in
    let front : all options ++ (Ok v ∷ rest) ≡ all read ++ rest = sym (append_assoc (all options) (Ok v ∷ []) rest)
    ∙ ap (λ (l : List Answer). l ++ rest) (sym (map-append Ok options (v ∷ []))) in
    record {
      answers = answers;
      read = read;
      some = some;
      tile = tile;
      good = ap (take (most + 1)) (e ∙ front) ∙ take_at (all read) rest (most + 1) long;
      kept = sym (take_at options (v ∷ []) most l);
    }

-- no header is read past a refusal
refusal_read : (n : ℕ) (options read : List OptionValue) (e : Error) (rest : List Answer) → length options ≤ n
    → take (suc n) (all options ++ (Err e ∷ rest)) ≡ all read → ⊥
refusal_read n [] [] e rest l h = cc
refusal_read n [] (r ∷ read) e rest l h = cc
refusal_read zero (o ∷ options) read e rest l h = absurd (omega (arith, l))
refusal_read (suc n) (o ∷ options) [] e rest l h = cc
refusal_read (suc n) (o ∷ options) (r ∷ read) e rest l h = refusal_read n options read e rest (omega (arith, l)) cc

pub header-refused : (most : ℕ) (bytes : List ℕ) (options other : List OptionValue) (e : Error)
    (answers rest : List Answer)
    → Tile bytes answers → answers ≡ all options ++ (Err e ∷ rest) → length options ≤ most → IsHeader most bytes other
    → ⊥
header-refused most bytes options other e answers rest tile is l h =
    let same : h.answers ≡ all options ++ (Err e ∷ rest) = tile-unique bytes h.answers answers h.tile tile ∙ is in
    let read : take (suc most) (all options ++ (Err e ∷ rest)) ≡ all h.read = ap (take (suc most)) (sym same)
    ∙ ap (λ (n : ℕ). take n h.answers) (sym (add-one most)) ∙ h.good in
    refusal_read most options h.read e rest l read

same_options : (xs ys : List OptionValue) → all xs ≡ all ys → xs ≡ ys
same_options [] [] e = refl
same_options [] (y ∷ ys) e = cc
same_options (x ∷ xs) [] e = cc
same_options (x ∷ xs) (y ∷ ys) e =
    let rest : xs ≡ ys = same_options xs ys cc in
    let first : x ≡ y = cc in
    cc

-- the bytes are one header at most
pub header-unique : (most : ℕ) (bytes : List ℕ) (options other : List OptionValue) → IsHeader most bytes options
    → IsHeader most bytes other → options ≡ other
header-unique most bytes options other a b =
    let answers : a.answers ≡ b.answers = tile-unique bytes a.answers b.answers a.tile b.tile in
    let read : a.read ≡ b.read = same_options a.read b.read (sym a.good ∙ ap (take (most + 1)) answers ∙ b.good) in
    a.kept ∙ ap (take most) read ∙ sym b.kept
