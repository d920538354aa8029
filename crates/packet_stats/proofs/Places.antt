-- Rows at their places.
use Rattle.std.proofs.Common.{◌≡◌, ◌≢◌, ◌+◌, ◌<◌, ◌++◌, ◌∙◌, [], ◌∷◌, Err, List, Ok, OnErr, OnOk, Result, ap}
use Rattle.std.proofs.Common.{arith, drop, get_or, length, map, refl, set, subst, suc, sym, take, ℕ}
use Rattle.std.proofs.lemmas.List.{length-map, length-take, map-append, map-set, map_more, set-get_or, set_split}
use Rattle.std.proofs.Math.ListN.{get_or-map}
use Rattle.packet_stats.specs.Row.{MentionValue, RowValue, counted, row_of}
use Rattle.packet_stats.specs.Subject.{SubjectValue, subject_of}
use Rattle.packet_stats.specs.Table.{Counts, IsUnknown, TableValue}
use Rattle.packet_stats.specs.Table as table
use Rattle.packet_stats.specs.Types.{Fault, Row}
use Rattle.packet_stats.specs.private.Places.{IsFoundAt}

-- ---- the first of a subject

unknown-push : (subject : SubjectValue) (rs : List RowValue) (r : RowValue) → IsUnknown subject rs
    → r.subject ≢ subject → IsUnknown subject (rs ++ (r ∷ []))
unknown-push subject [] r h other = (other, tt)
unknown-push subject (x ∷ xs) r h other = (h.0, unknown-push subject xs r h.1 other)

pub unknown_more : (subject : SubjectValue) (items : List Row) (i : ℕ) (x : Row) → i < length items
    → x ≡ get_or items i x → subject_of x.subject ≢ subject → IsUnknown subject (map row_of (take i items))
    → IsUnknown subject (map row_of (take (i + 1) items))
unknown_more subject items i x within at other so =
    subst (IsUnknown subject)
    (sym (map_more row_of items i x within
    ∙ ap (λ (y : Row). map row_of (take i items) ++ (row_of y ∷ [])) (sym at)))
    (unknown-push subject (map row_of (take i items)) (row_of x) so other)

pub found_at : (subject : SubjectValue) (items : List Row) (i : ℕ) (x : Row) → i < length items
    → x ≡ get_or items i x → subject_of x.subject ≡ subject → IsUnknown subject (map row_of (take i items))
    → IsFoundAt subject (map row_of items) i
found_at subject items i x within at same so = record {
  before = map row_of (take i items);
  r = row_of x;
  behind = map row_of (drop (suc i) items);
  parts =
      ap (map row_of) (sym (set-get_or items i x) ∙ ap (set items i) (sym at) ∙ set_split items i x within)
      ∙ map-append row_of (take i items) (x ∷ drop (suc i) items);
  place_is = omega (arith, length-map (take i items) row_of, length-take i items, within);
  unknown = so;
  same = same;
}

-- ---- a list around an element

get_middle : {X : Type 0} (before : List X) (x : X) (behind : List X) (d : X)
    → get_or (before ++ (x ∷ behind)) (length before) d ≡ x
get_middle [] x behind d = refl
get_middle (y ∷ before) x behind d = get_middle before x behind d

set_middle : {X : Type 0} (before : List X) (x : X) (behind : List X) (other : X)
    → set (before ++ (x ∷ behind)) (length before) other ≡ before ++ (other ∷ behind)
set_middle [] x behind other = refl
set_middle (y ∷ before) x behind other = ap (λ l. y ∷ l) (set_middle before x behind other)

-- ---- the row that is found

row_at : (subject : SubjectValue) (items : List Row) (place : ℕ) (x : Row)
    (f : IsFoundAt subject (map row_of items) place) → x ≡ get_or items place x → row_of x ≡ f.r
row_at subject items place x f at =
    ap row_of at ∙ sym (get_or-map row_of items place x)
    ∙ ap (λ (l : List RowValue). get_or l place (row_of x)) f.parts
    ∙ ap (λ (i : ℕ). get_or (f.before ++ (f.r ∷ f.behind)) i (row_of x)) f.place_is
    ∙ get_middle f.before f.r f.behind (row_of x)

-- with another in its place
changed : (subject : SubjectValue) (items : List Row) (place : ℕ) (other : Row)
    (f : IsFoundAt subject (map row_of items) place)
    → map row_of (set items place other) ≡ f.before ++ (row_of other ∷ f.behind)
changed subject items place other f =
    map-set row_of items place other ∙ ap (λ (l : List RowValue). set l place (row_of other)) f.parts
    ∙ ap (λ (i : ℕ). set (f.before ++ (f.r ∷ f.behind)) i (row_of other)) f.place_is
    ∙ set_middle f.before f.r f.behind (row_of other)

abbrev with_rows : ℕ → List RowValue → TableValue
with_rows overlooked rs = record { rows = rs; overlooked = overlooked }

-- it counts one message more
pub counts_again : (most overlooked : ℕ) (m : MentionValue) (items : List Row) (place : ℕ) (x other : Row)
    (r : Result (Unit {0}) Fault) → IsFoundAt m.subject (map row_of items) place → x ≡ get_or items place x
    → OnOk r (row_of other ≡ counted m.after (row_of x))
    → OnOk r (Counts most (with_rows overlooked (map row_of items)) m
    (with_rows overlooked (map row_of (set items place other))))
counts_again most overlooked m items place x other (Ok u) f at is =
    table.again f.before f.behind f.r f.parts f.unknown f.same
    (ap (with_rows overlooked)
    (changed m.subject items place other f
    ∙ ap (λ (y : RowValue). f.before ++ (y ∷ f.behind))
    (is ∙ ap (counted m.after) (row_at m.subject items place x f at))))
counts_again most overlooked m items place x other (Err fault) f at is = tt

-- it stays as it was
pub stays : (overlooked : ℕ) (subject : SubjectValue) (items : List Row) (place : ℕ) (x other : Row)
    (r : Result (Unit {0}) Fault) → IsFoundAt subject (map row_of items) place → x ≡ get_or items place x
    → OnErr r (row_of other ≡ row_of x)
    → OnErr r (with_rows overlooked (map row_of (set items place other)) ≡ with_rows overlooked (map row_of items))
stays overlooked subject items place x other (Ok u) f at is = tt
stays overlooked subject items place x other (Err fault) f at is =
    ap (with_rows overlooked)
    (changed subject items place other f
    ∙ ap (λ (y : RowValue). f.before ++ (y ∷ f.behind)) (is ∙ row_at subject items place x f at) ∙ sym f.parts)
