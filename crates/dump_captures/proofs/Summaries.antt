-- Sums that are made in a loop, and parts that are printed in one.
use Rattle.std.proofs.Common.{◌≡◌, ℕ, ◌+◌, ◌<◌, ◌≤◌, Bool, true, false, List, [], ◌∷◌, ◌++◌, length, take, get_or}
use Rattle.std.proofs.Common.{Option, codes, decimal, refl, ap, sym, ◌∙◌, append_assoc}
use Rattle.std.proofs.lemmas.Bool.{ne_eqb}
use Rattle.std.proofs.lemmas.Grind.{flat_map-append}
use Rattle.std.proofs.lemmas.List.{append-nil, take_all, take_more}
use Rattle.std.proofs.lemmas.List.Sums.{fold_more}
use Rattle.std.specs.Prelude.{◌==◌, ◌&&◌, flat_map, if◌then◌else◌}
use Rattle.packet_fields.proofs.Printing.{gains_both}
use Rattle.packet_fields.specs.Output.{Gains}
use Rattle.dump_captures.specs.Kinds.{reason_text}
use Rattle.dump_captures.specs.Counts.{further_parts, row_part}
use Rattle.dump_captures.specs.Numbers.{in_brackets, more_by}
use Rattle.dump_captures.specs.Summary.{reason_parts, refused_for, sum_up}
use Rattle.dump_captures.specs.Tally.{TallyValue}
use Rattle.dump_captures.specs.declared.counts.Count.{Count}
use Rattle.dump_captures.specs.declared.kind.Reason.{Reason}
use Rattle.dump_captures.specs.private.Brackets.{appended, before, is_none, opened, row_parts}

-- ---- sums

-- of one thing more, and of all
pub sum_more : {A : Type 0} (number : A → ℕ) (xs : List A) (i : ℕ) (d : A) (sum more : ℕ) → i < length xs
    → sum ≡ sum_up number (take i xs) → more ≡ more_by (number (get_or xs i d)) sum
    → more ≡ sum_up number (take (i + 1) xs)
sum_more number xs i d sum more within so_far is =
    is ∙ ap (more_by (number (get_or xs i d))) so_far
    ∙ sym (fold_more (λ sum x. more_by (number x) sum) 0 xs i d within)

pub sum_all : {A : Type 0} (number : A → ℕ) (xs : List A) (i sum : ℕ) → length xs ≤ i
    → sum ≡ sum_up number (take i xs) → sum ≡ sum_up number xs
sum_all number xs i sum all so_far = so_far ∙ ap (sum_up number) (take_all i xs all)

-- ---- parts in brackets

abbrev with_comma : List ℕ → List ℕ
with_comma part = codes ", " ++ part

is_none-more : (parts : List (List ℕ)) (part : List ℕ) → is_none (parts ++ part ∷ []) ≡ false
is_none-more [] part = refl
is_none-more (first ∷ parts) part = refl

flat_map-one : {X A : Type 0} (f : X → List A) (xs : List X) (x : X) → flat_map f (xs ++ x ∷ []) ≡ flat_map f xs ++ f x
flat_map-one f xs x = flat_map-append f xs (x ∷ []) ∙ ap (λ more. flat_map f xs ++ more) (append-nil (f x))

opened-more : (parts : List (List ℕ)) (part : List ℕ)
    → opened (parts ++ part ∷ []) ≡ opened parts ++ (before (is_none parts) ++ part)
opened-more [] part = append-nil _
opened-more (first ∷ parts) part =
    ap (λ more. codes " (" ++ first ++ more) (flat_map-one with_comma parts part)
    ∙ sym (append_assoc (codes " (" ++ first) (flat_map with_comma parts) (with_comma part))

-- where there was none, nothing is printed, and else the bracket
pub opened-none : (a b : Option (List ℕ)) (parts : List (List ℕ)) → is_none parts ≡ true → Gains a b (opened parts)
    → Gains a b (in_brackets parts)
opened-none a b [] none gains = gains
opened-none a b (part ∷ parts) none gains = absurd (cc none)

pub opened-some : (parts : List (List ℕ)) → is_none parts ≡ false → opened parts ++ codes ")" ≡ in_brackets parts
opened-some [] some = absurd (cc some)
opened-some (part ∷ parts) some = refl

-- ---- the reasons

-- the parts of the first i
abbrev pub parts_so_far : TallyValue → List Reason → ℕ → List (List ℕ)
parts_so_far t reasons i = flat_map (reason_parts t) (take i reasons)

parts-more : (t : TallyValue) (reasons : List Reason) (i : ℕ) (d : Reason) → i < length reasons
    → parts_so_far t reasons (i + 1) ≡ parts_so_far t reasons i ++ reason_parts t (get_or reasons i d)
parts-more t reasons i d within =
    ap (flat_map (reason_parts t)) (take_more reasons i d within)
    ∙ flat_map-one (reason_parts t) (take i reasons) (get_or reasons i d)

-- a reason for which no packet was refused has no part
pub parts-none : (t : TallyValue) (reasons : List Reason) (i count : ℕ) (d : Reason) → i < length reasons
    → count ≡ refused_for t (get_or reasons i d) → count ≡ 0
    → parts_so_far t reasons (i + 1) ≡ parts_so_far t reasons i
parts-none t reasons i count d within is none =
    let zero : refused_for t (get_or reasons i d) ≡ 0 = sym is ∙ none in
    let empty : reason_parts t (get_or reasons i d) ≡ [] = rw zero refl in
    parts-more t reasons i d within ∙ ap (λ more. parts_so_far t reasons i ++ more) empty ∙ append-nil _

-- and another one is printed after those before
pub parts-some : (t : TallyValue) (reasons : List Reason) (i count : ℕ) (d : Reason) (is_first : Bool)
    (a b c : Option (List ℕ)) → i < length reasons
    → count ≡ refused_for t (get_or reasons i d) → (count ≡ 0 → ⊥) → is_first ≡ is_none (parts_so_far t reasons i)
    → Gains a b (opened (parts_so_far t reasons i))
    → Gains b c (before is_first
    ++ (decimal count ++ codes " " ++ reason_text (get_or reasons i d)))
    → (false ≡ is_none (parts_so_far t reasons (i + 1))) × Gains a c (opened (parts_so_far t reasons (i + 1)))
parts-some t reasons i count d is_first a b c within is some first gains more =
    let part : List ℕ = decimal count ++ codes " " ++ reason_text (get_or reasons i d) in
    let one : reason_parts t (get_or reasons i d) ≡ part ∷ [] = rw (← is, ne_eqb count 0 some) refl in
    let all : parts_so_far t reasons (i + 1) ≡ parts_so_far t reasons i ++ part ∷ [] =
    parts-more t reasons i d within ∙ ap (λ more. parts_so_far t reasons i ++ more) one in
    let behind = rw first at more in (
      sym (ap is_none all ∙ is_none-more (parts_so_far t reasons i) part),
      rw (all, opened-more (parts_so_far t reasons i) part) (gains_both _ _ _ _ _ gains behind),
    )

-- ---- the packets of each category

-- others after the parts so far, and the bracket behind all
opened-appended : (parts others : List (List ℕ)) → opened parts ++ appended (is_none parts) others
    ≡ opened (parts ++ others)
opened-appended [] [] = refl
opened-appended [] (other ∷ others) = refl
opened-appended (part ∷ parts) [] = append-nil _ ∙ ap opened (sym (append-nil (part ∷ parts)))
opened-appended (part ∷ parts) (other ∷ others) =
    append_assoc (codes " (" ++ part) (flat_map with_comma parts) (appended false (other ∷ others))
    ∙ ap (λ more. codes " (" ++ part ++ more) (sym (flat_map-append with_comma parts (other ∷ others)))

is_none-both : (parts others : List (List ℕ)) → is_none (parts ++ others) ≡ (is_none parts && is_none others)
is_none-both [] others = refl
is_none-both (part ∷ parts) others = refl

closed : (parts : List (List ℕ)) → opened parts ++ (if is_none parts then [] else codes ")") ≡ in_brackets parts
closed [] = refl
closed (part ∷ parts) = refl

none_further : (n : ℕ) → is_none (further_parts n) ≡ (n == 0)
none_further n =
    elim (n == 0) as (λ is. is_none (if is then [] else (decimal n ++ codes " further") ∷ []) ≡ is) [
      | true ↦ refl
      | false ↦ refl
    ]

pub brackets-whole : (parts : List (List ℕ)) (further : ℕ) (is_first : Bool) → is_first ≡ is_none parts
    → (opened parts ++ appended is_first (further_parts further)) ++ (if is_first && (further == 0) then [] else codes
    ")")
    ≡ in_brackets (parts ++ further_parts further)
brackets-whole parts further is_first is =
    let others = further_parts further in
    let none : is_none (parts ++ others) ≡ (is_none parts && (further == 0)) =
    is_none-both parts others ∙ ap (λ none. is_none parts && none) (none_further further) in
    rw (is, opened-appended parts others, ← none) (closed (parts ++ others))

-- one row more
pub rows-more : (rows : List Count) (i : ℕ) (d : Count) (is_first : Bool) (a b c : Option (List ℕ)) → i < length rows
    → is_first ≡ is_none (row_parts (take i rows)) → Gains a b (opened (row_parts (take i rows)))
    → Gains b c (before is_first ++ row_part (get_or rows i d))
    → (false ≡ is_none (row_parts (take (i + 1) rows))) × Gains a c (opened (row_parts (take (i + 1) rows)))
rows-more rows i d is_first a b c within first gains more =
    let parts = row_parts (take i rows) in
    let part = row_part (get_or rows i d) in
    let all : row_parts (take (i + 1) rows) ≡ parts ++ part ∷ [] =
    ap row_parts (take_more rows i d within)
    ∙ flat_map-append (λ row. row_part row ∷ []) (take i rows) (get_or rows i d ∷ []) in (
      sym (ap is_none all ∙ is_none-more parts part),
      rw (all, opened-more parts part) (gains_both _ _ _ _ _ gains (rw first at more)),
    )
