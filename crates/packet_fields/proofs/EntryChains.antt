-- Entries that are printed one after another.
use Rattle.std.proofs.Common.{◌≡◌, ◌∙◌, [], ◌∷◌, ◌++◌, Bool, Err, List, flat_map, Ok, OnOk, Option, Result, ℕ, ap, append_assoc, false, subst, sym}
use Rattle.std.proofs.Common.{None, Some, refl, true}
use Rattle.std.specs.Borrow.{Bor}
use Rattle.std.specs.Option.{option_map}
use Rattle.packet_fields.specs.Fields.{leaf_or_missing, text}
use Rattle.std.proofs.lemmas.Grind.{flat_map-append}
use Rattle.std.proofs.lemmas.List.{append-nil}
use Rattle.packet_fields.specs.Output.{Gains}
use Rattle.packet_fields.specs.Fields.{Cell, EntriesFit, Entry, Fits, entries, entries_text, entry_after, entry_before, entry_text}
use Rattle.packet_fields.specs.Fields.{first_text, list_before, list_after}
unfoldable use Rattle.packet_fields.specs.Fields.{item_text}
use Rattle.packet_fields.specs.Prints.{Prints, PrintsCells}
use Rattle.packet_fields.specs.declared.form.Form.{Form}
use Rattle.packet_fields.proofs.Printing.{◌then◌, gains_none, gains_last}
use Rattle.packet_fields.proofs.Fields.{cells_both, one_on_ok}
use Rattle.packet_fields.specs.Entries.{PrintsEntry}
use Rattle.packet_fields.specs.private.Entries.{PrintsEntries}

-- whether no entry is printed yet
abbrev pub is_none : List Entry → Bool
is_none [] = true
is_none (e ∷ es) = false

-- the text of entries and of one more
one_more_text : (form : Form) (es : List Entry) (e : Entry)
    → entries_text form (es ++ (e ∷ [])) ≡ entries_text form es ++ entry_text form (is_none es) e
one_more_text form [] e = append-nil _
one_more_text form (first ∷ rest) e =
    ap (λ more. entry_text form true first ++ more)
    (flat_map-append (entry_text form false) rest (e ∷ [])
    ∙ ap (λ last. flat_map (entry_text form false) rest ++ last) (append-nil _))
    ∙ sym (append_assoc (entry_text form true first) (flat_map (entry_text form false) rest) (entry_text form false e))

all_fit : (es : List Entry) (e : Entry) → EntriesFit es → EntriesFit (e ∷ []) → EntriesFit (es ++ (e ∷ []))
all_fit [] e so_far one = one
all_fit (first ∷ rest) e (fits, cells, more) one = (fits, cells, all_fit rest e more one)

-- no entries, and one more
pub entries_none : (form : Form) (a : Option (List ℕ)) → PrintsEntries form a a []
entries_none form a = record { gains = gains_none a; fit = tt }

pub one_more : (form : Form) (a b c : Option (List ℕ)) (es : List Entry) (e : Entry) → PrintsEntries form a b es
    → PrintsEntry form (is_none es) b c e → PrintsEntries form a c (es ++ (e ∷ []))
one_more form a b c es e so_far one = record {
  gains = subst (Gains a c) (sym (one_more_text form es e)) (so_far.gains then one.gains);
  fit = all_fit es e so_far.fit one.fits;
}

pub none_no_more : (es : List Entry) (e : Entry) → false ≡ is_none (es ++ (e ∷ []))
none_no_more [] e = refl
none_no_more (first ∷ rest) e = refl

-- an entry, by what it begins with, its first value, its other values and its end
pub entry_printed : {E : Type 0} (form : Form) (is_first : Bool) (a b c d z : Option (List ℕ)) (e : Entry)
    (r : Result (Unit {0}) E) → Fits e.first
    → Gains a b (entry_before form is_first e.label_key e.label) → Gains b c (first_text form e.first_key e.first)
    → PrintsCells form c d e.rest → OnOk r (Gains d z (entry_after form)) → OnOk r (PrintsEntry form is_first a z e)
entry_printed form is_first a b c d z e (Ok u) fits before first cells after = record {
  gains = before then first then cells.gains then after;
  fits = (fits, cells.fit, tt);
}
entry_printed form is_first a b c d z e (Err x) fits before first cells after = tt

-- a list of entries, by what precedes them, the entries, and what follows them
pub list_printed : {E : Type 0} (form : Form) (a b c z : Option (List ℕ)) (key : List ℕ) (es : List Entry)
    (r : Result (Unit {0}) E) → Gains a b (list_before form key) → PrintsEntries form b c es
    → OnOk r (Gains c z (list_after form)) → OnOk r (Prints form a z (entries key es ∷ []))
unfolding item_text
list_printed form a b c z key es r before printed after =
    one_on_ok form a z (entries key es) r printed.fit
    (gains_last z (list_after form) r (before then printed.gains) after)

-- further values, the last of which may fail
pub cells_last : {E : Type 0} {form : Form} {a b : Option (List ℕ)} {xs : List Cell} (c : Option (List ℕ))
    (ys : List Cell) (r : Result (Unit {0}) E) → PrintsCells form a b xs → OnOk r (PrintsCells form b c ys)
    → OnOk r (PrintsCells form a c (xs ++ ys))
cells_last c ys (Ok x) first second = cells_both _ _ _ _ _ _ first second
cells_last c ys (Err e) first second = tt

-- a name, or none
pub name_leaf : (name : Option (Bor (List ℕ)))
    → leaf_or_missing (λ t. text t.now) name ≡ leaf_or_missing text (option_map (λ t. t.now) name)
name_leaf None = refl
name_leaf (Some name) = refl
