-- The entries of rows.
use Rattle.std.proofs.Common.{◌≡◌, ◌+◌, ◌<◌, ◌++◌, ◌∙◌, [], ◌∷◌, List, ap, arith, get_or, length, map, nat_eq, refl}
use Rattle.std.proofs.Common.{◌≤◌, Option, subst, suc, sym, take, zero, ℕ}
use Rattle.std.proofs.lemmas.List.{map-append, map_more, take_all}
use Rattle.packet_fields.specs.Entries.{PrintsEntry}
use Rattle.packet_fields.specs.Fields.{Entry}
use Rattle.packet_fields.specs.declared.form.Form.{Form}
use Rattle.packet_fields.specs.private.Entries.{PrintsEntries}
use Rattle.packet_fields.proofs.EntryChains.{is_none, one_more}
use Rattle.packet_stats.specs.Row.{row_of}
use Rattle.packet_stats.specs.Shown.{row_entry}
use Rattle.packet_stats.specs.Types.{Row}

abbrev pub entries_of : Form → List Row → List Entry
entries_of form rows = map (row_entry form) (map row_of rows)

-- those of the first rows, and one more
next_entry : (form : Form) (rows : List Row) (i : ℕ) (x : Row) → i < length rows → x ≡ get_or rows i x
    → entries_of form (take (i + 1) rows) ≡ entries_of form (take i rows) ++ (row_entry form (row_of x) ∷ [])
next_entry form rows i x within at =
    ap (map (row_entry form))
    (map_more row_of rows i x within ∙ ap (λ (y : Row). map row_of (take i rows) ++ (row_of y ∷ [])) (sym at))
    ∙ map-append (row_entry form) (map row_of (take i rows)) (row_of x ∷ [])

is_first : (form : Form) (rows : List Row) (i : ℕ) → i < length rows
    → nat_eq i 0 ≡ is_none (entries_of form (take i rows))
is_first form [] i within = absurd (omega (arith, within))
is_first form (r ∷ rs) zero within = refl
is_first form (r ∷ rs) (suc i) within = grind arith

-- the next row is printed, and then all are
pub next_printed : (form : Form) (a b c : Option (List ℕ)) (rows : List Row) (i : ℕ) (x : Row) → i < length rows
    → x ≡ get_or rows i x → PrintsEntries form a b (entries_of form (take i rows))
    → PrintsEntry form (nat_eq i 0) b c (row_entry form (row_of x))
    → PrintsEntries form a c (entries_of form (take (i + 1) rows))
next_printed form a b c rows i x within at so_far next =
    subst (PrintsEntries form a c) (sym (next_entry form rows i x within at))
    (one_more form a b c (entries_of form (take i rows)) (row_entry form (row_of x)) so_far
    (subst (λ f. PrintsEntry form f b c (row_entry form (row_of x))) (is_first form rows i within) next))

pub all_printed : (form : Form) (a b : Option (List ℕ)) (rows : List Row) (i : ℕ) → length rows ≤ i
    → PrintsEntries form a b (entries_of form (take i rows)) → PrintsEntries form a b (entries_of form rows)
all_printed form a b rows i beyond printed =
    subst (λ (l : List Row). PrintsEntries form a b (entries_of form l)) (take_all i rows beyond) printed
