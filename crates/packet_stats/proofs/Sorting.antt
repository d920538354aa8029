-- Rows in the order of a page.
use Rattle.std.proofs.Common.{◌≡◌, ◌+◌, ◌<◌, ◌∙◌, [], ◌∷◌, Bool, List, ap, arith, get_or, length, map, refl, ℕ}
use Rattle.std.proofs.Common.{rules, suc, zero}
use Rattle.std.proofs.lemmas.List.{length-map}
use Rattle.std.proofs.lemmas.List.MinMax.{ranks_by}
use Rattle.std.specs.Cmp.{IsStrictWeakOrder, IsTotalOrder}
use Rattle.std.specs.Cmp.Rules.{comparing}
use Rattle.std.specs.List.Sorted.{IsSortedBy}
use Rattle.std.specs.Ordering.{is_lt}
use Rattle.packet_stats.specs.Row.{row_cmp, row_of}
use Rattle.packet_stats.specs.Types.{Row}

row_order : IsTotalOrder row_cmp
row_order = search (comparing, rules)

pub rows_are_ordered : IsStrictWeakOrder (λ (x y : Row). is_lt (row_cmp (row_of x) (row_of y)))
rows_are_ordered = ranks_by row_order row_of

at_default : {X Y : Type 0} (f : X → Y) (xs : List X) (i : ℕ) (d : Y) (x : X) → i < length xs
    → get_or (map f xs) i d ≡ f (get_or xs i x)
at_default f [] i d x below = absurd (omega (arith, below))
at_default f (y ∷ ys) zero d x below = refl
at_default f (y ∷ ys) (suc i) d x below = at_default f ys i d x (omega (arith, below))

-- by their content too
pub sorted_by_content : {X Y : Type 0} (f : X → Y) (lt : Y → Y → Bool) (xs : List X)
    → IsSortedBy (λ x y. lt (f x) (f y)) xs → IsSortedBy lt (map f xs)
sorted_by_content f lt [] sorted k d from below = absurd (omega (arith, below))
sorted_by_content f lt (x ∷ xs) sorted k d from below =
    let len : length (map f (x ∷ xs)) ≡ length (x ∷ xs) = length-map (x ∷ xs) f in
    let later : get_or (map f (x ∷ xs)) (k + 1) d ≡ f (get_or (x ∷ xs) (k + 1) x) =
    at_default f (x ∷ xs) (k + 1) d x (omega (arith, len, below)) in
    let before : get_or (map f (x ∷ xs)) k d ≡ f (get_or (x ∷ xs) k x) =
    at_default f (x ∷ xs) k d x (omega (arith, len, below)) in
    let is = sorted k x from (omega (arith, len, below)) in
    ap (λ y. lt y (get_or (map f (x ∷ xs)) k d)) later ∙ ap (lt (f (get_or (x ∷ xs) (k + 1) x))) before ∙ is
