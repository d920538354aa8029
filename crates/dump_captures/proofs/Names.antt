-- Names that are read in a loop.
use Rattle.std.proofs.Common.{◌≡◌, ℕ, ◌+◌, ◌<◌, true, false, List, [], ◌∷◌, ◌++◌, length, take, drop, get_or, None}
use Rattle.std.proofs.Common.{arith, Some, Ok, Err, codes, slice_set, refl, ap, sym, ◌∙◌}
use Rattle.std.proofs.lemmas.List.{take-append-drop, take_more}
use Rattle.std.proofs.lemmas.List.Sums.{fold-append, fold_push}
use Rattle.std.specs.List.{fold}
use Rattle.std.specs.Option.{ok_or}
use Rattle.std.specs.Prelude.{bytes_eq}
use Rattle.dump_captures.specs.Arguments.{chooses_none, kind_named, then_name, with_name, with_names}
use Rattle.dump_captures.specs.Kinds.{kind_place}
use Rattle.dump_captures.specs.declared.kind.Kind.{Kind}
use Rattle.dump_captures.specs.declared.options.Only.{Only}
use Rattle.dump_captures.specs.Numbers.{changed_at}
use Rattle.dump_captures.proofs.Tallies.{changed_at-length, changed_at-set}

-- ---- the kind of a name

-- ---- one name

-- the packets of the kind that it names are chosen too
pub with_name-kind : (name : List ℕ) (only : Only) (kind : Kind) (place : ℕ)
    → bytes_eq name (codes "hbh") ≡ false → bytes_eq name (codes "icmp") ≡ false → kind_named name ≡ Some kind
    → place ≡ kind_place kind
    → place < length only.kinds → Some (record only { kinds = slice_set only.kinds place true }) ≡ with_name name only
with_name-kind name only kind place other one named at within =
    rw (other, one, named, changed_at-set only.kinds place (λ _. true) false within, at) refl

-- those of both ICMPs
pub with_name-icmp : (name : List ℕ) (only : Only) (p q : ℕ) → bytes_eq name (codes "hbh") ≡ false
    → bytes_eq name (codes "icmp") ≡ true → p ≡ 0 → q ≡ 2 → p < length only.kinds → q < length only.kinds
    → Some (record only { kinds = slice_set (slice_set only.kinds p true) q true }) ≡ with_name name only
with_name-icmp name only p q other named first second p_within q_within =
    let one = changed_at p (λ _. true) only.kinds in
    rw (
      other,
      named,
      changed_at-set only.kinds p (λ _. true) false p_within,
      changed_at-set one q (λ _. true) false (omega (arith, changed_at-length p (λ _. true) only.kinds)),
      first,
      second,
    ) refl

-- ---- all names

-- where one is no name, the further ones are not looked at
fold-wrong : (wrong : List ℕ) (names : List (List ℕ)) → fold then_name (Err wrong) names ≡ Err wrong
fold-wrong wrong [] = refl
fold-wrong wrong (name ∷ names) = fold-wrong wrong names

names-wrong : (names rest : List (List ℕ)) (wrong : List ℕ) → with_names names ≡ Err wrong
    → with_names (names ++ rest) ≡ Err wrong
names-wrong names rest wrong so_far =
    fold-append then_name (Ok chooses_none) names rest ∙ ap (λ read. fold then_name read rest) so_far
    ∙ fold-wrong wrong rest

pub names-stop : (all names : List (List ℕ)) (n : ℕ) (name : List ℕ) (only : Only)
    → names ≡ take n all → (n < length all) × (name ≡ get_or all n name) → with_names names ≡ Ok only
    → with_name name only ≡ None → with_names all ≡ Err name
names-stop all names n name only front (within, is) so_far none =
    let next : take (n + 1) all ≡ names ++ name ∷ [] =
    take_more all n name within ∙ ap (λ x. take n all ++ x ∷ []) (sym is)
    ∙ ap (λ xs. xs ++ name ∷ []) (sym front) in
    let stops : with_names (take (n + 1) all) ≡ Err name =
    ap with_names next ∙ fold_push then_name (Ok chooses_none) names name
    ∙ ap (λ read. then_name read name) so_far ∙ ap (λ read. ok_or read name) none in
    ap with_names (sym (take-append-drop (n + 1) all))
    ∙ names-wrong (take (n + 1) all) (drop (n + 1) all) name stops
