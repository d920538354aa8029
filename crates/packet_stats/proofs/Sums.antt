-- Rows and the sums of their subjects.
use Rattle.std.proofs.Common.{◌≡◌, ◌≢◌, ◌+◌, ◌<◌, ◌==◌, ◌∙◌, [], ◌∷◌, Err, List, None, Ok, OnErr, OnOk, Option, Result}
use Rattle.std.proofs.Common.{Some, ap, arith, false, get_or, length, map, rules, set, subst, suc, sym, take, true}
use Rattle.std.proofs.Common.{zero}
use Rattle.std.proofs.Common.{ℕ}
use Rattle.std.proofs.lemmas.Bool.{or_parts}
use Rattle.std.proofs.lemmas.List.{length-map, map-set, set-get_or}
use Rattle.std.specs.List.{list_any}
use Rattle.packet_stats.specs.Row.{RowValue, counted, row_of}
use Rattle.packet_stats.specs.Subject.{SubjectValue, subject_of}
use Rattle.packet_stats.specs.Table.{IsUnknown}
use Rattle.packet_stats.specs.Types.{Fault, Row}
use Rattle.packet_stats.specs.private.Sums.{sum_in, sum_of}

-- ---- subjects with other sums are other subjects

other_subject : (subject : SubjectValue) (r : Row) → (sum_in r == sum_of subject) ≡ false
    → subject_of r.subject ≢ subject
other_subject subject r h e =
    let other : (sum_of subject == sum_of subject) ≡ false = subst (λ s. (sum_of s == sum_of subject) ≡ false) e h in
    let same : (sum_of subject == sum_of subject) ≡ true = search rules in
    let never : true ≡ false = sym same ∙ other in cc

none_in : (subject : SubjectValue) (items : List Row)
    → list_any (λ other. other == sum_of subject) (map sum_in items) ≡ false → IsUnknown subject (map row_of items)
none_in subject [] h = tt
none_in subject (r ∷ rs) h =
    let both = or_parts (sum_in r == sum_of subject) (list_any (λ other. other == sum_of subject) (map sum_in rs)) h in
    (other_subject subject r both.0, none_in subject rs both.1)

-- none of the sums is that of the subject
pub none_with : (subject : SubjectValue) (items : List Row) (sums : List ℕ) (sum : ℕ) → sums ≡ map sum_in items
    → sum ≡ sum_of subject → list_any (λ other. other == sum) sums ≡ false → IsUnknown subject (map row_of items)
none_with subject items sums sum e f h =
    none_in subject items
    (sym (ap (λ (l : List ℕ). list_any (λ other. other == sum) l) e
    ∙ ap (λ (s : ℕ). list_any (λ other. other == s) (map sum_in items)) f) ∙ h)

unknown_more : (subject : SubjectValue) (items : List Row) (i : ℕ) → get_or (map sum_in items) i 0 ≢ sum_of subject
    → IsUnknown subject (map row_of (take i items)) → IsUnknown subject (map row_of (take (suc i) items))
unknown_more subject [] i other so = tt
unknown_more subject (r ∷ rs) zero other so = (λ e. other (ap sum_of e), tt)
unknown_more subject (r ∷ rs) (suc i) other so = (so.0, unknown_more subject rs i other so.1)

-- nor is the next
pub unknown_with : (subject : SubjectValue) (items : List Row) (sums : List ℕ) (sum i : ℕ) → sums ≡ map sum_in items
    → sum ≡ sum_of subject → get_or sums i 0 ≢ sum → IsUnknown subject (map row_of (take i items))
    → IsUnknown subject (map row_of (take (i + 1) items))
unknown_with subject items sums sum i e f other so =
    let next : suc i ≡ i + 1 = omega arith in
    subst (λ n. IsUnknown subject (map row_of (take n items))) next
    (unknown_more subject items i (λ h. other (ap (λ (l : List ℕ). get_or l i 0) e ∙ h ∙ sym f)) so)

-- there are as many of them
pub within_rows : (items : List Row) (sums : List ℕ) (i : ℕ) → sums ≡ map sum_in items → i < length sums
    → i < length items
within_rows items sums i e below = omega (arith, ap length e, length-map items sum_in, below)

-- ---- the sums stay those of the rows

same_subject : (r : Result (Unit {0}) Fault) (after : Option ℕ) (x other : RowValue) → OnOk r (other ≡ counted after x)
    → OnErr r (other ≡ x) → other.subject ≡ x.subject
same_subject (Ok u) None x other again same = ap (λ (y : RowValue). y.subject) again
same_subject (Ok u) (Some t) x other again same = ap (λ (y : RowValue). y.subject) again ∙ grind arith
same_subject (Err fault) after x other again same = ap (λ (y : RowValue). y.subject) same

-- one counts a message more
pub same_sums : (r : Result (Unit {0}) Fault) (after : Option ℕ) (items : List Row) (sums : List ℕ) (place : ℕ)
    (x other : Row) → sums ≡ map sum_in items → x ≡ get_or items place x
    → OnOk r (row_of other ≡ counted after (row_of x)) → OnErr r (row_of other ≡ row_of x)
    → sums ≡ map sum_in (set items place other)
same_sums r after items sums place x other e at again same =
    e
    ∙ ap (map sum_in) (sym (set-get_or items place x) ∙ ap (set items place) (sym at))
    ∙ map-set sum_in items place x
    ∙ ap (λ (s : SubjectValue). set (map sum_in items) place (sum_of s))
    (sym (same_subject r after (row_of x) (row_of other) again same))
    ∙ sym (map-set sum_in items place other)
