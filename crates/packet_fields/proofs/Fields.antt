-- Fields that are printed one after another.
use Rattle.std.proofs.Common.{[], ◌∷◌, ◌++◌, Err, List, Ok, OnOk, Option, Result, ℕ, subst, sym}
use Rattle.std.proofs.lemmas.Grind.{flat_map-append}
use Rattle.std.proofs.lemmas.List.{append-nil}
use Rattle.packet_fields.specs.Output.{Gains}
use Rattle.packet_fields.specs.Fields.{Cell, CellsFit, Fits, Item, ItemFits, ItemsFit}
unfoldable use Rattle.packet_fields.specs.Fields.{cell_text, cells_text, item_text, items_text}
use Rattle.packet_fields.specs.Prints.{Prints, PrintsCells}
use Rattle.packet_fields.specs.declared.form.Form.{Form}
use Rattle.packet_fields.proofs.Printing.{◌then◌, gains_none}

pub fit_both : (xs ys : List Item) → ItemsFit xs → ItemsFit ys → ItemsFit (xs ++ ys)
fit_both [] ys first second = second
fit_both (x ∷ xs) ys (one, more) second = (one, fit_both xs ys more second)

cells_fit : (xs ys : List Cell) → CellsFit xs → CellsFit ys → CellsFit (xs ++ ys)
cells_fit [] ys first second = second
cells_fit (x ∷ xs) ys (one, more) second = (one, cells_fit xs ys more second)

-- no fields, one, and some and then others
pub prints_none : (form : Form) (a : Option (List ℕ)) → Prints form a a []
unfolding items_text
prints_none form a = record { gains = gains_none a; fit = tt }

pub prints_one : (form : Form) (a b : Option (List ℕ)) (item : Item) → ItemFits item → Gains a b (item_text form item)
    → Prints form a b (item ∷ [])
unfolding items_text
prints_one form a b item fits gains =
    record { gains = subst (Gains a b) (sym (append-nil (item_text form item))) gains; fit = (fits, tt) }

pub prints_both : (form : Form) (a b c : Option (List ℕ)) (xs ys : List Item) → Prints form a b xs
    → Prints form b c ys → Prints form a c (xs ++ ys)
unfolding items_text
prints_both form a b c xs ys first second = record {
  gains = subst (Gains a c) (sym (flat_map-append (item_text form) xs ys)) (first.gains then second.gains);
  fit = fit_both xs ys first.fit second.fit;
}

-- fields that are printed in a row with others
infixl 20 ◌and◌
pub ◌and◌ : {form : Form} {a b c : Option (List ℕ)} {xs ys : List Item} → Prints form a b xs → Prints form b c ys
    → Prints form a c (xs ++ ys)
first and second = prints_both _ _ _ _ _ _ first second

-- the last of which may fail
pub prints_last : {E : Type 0} {form : Form} {a b : Option (List ℕ)} {xs : List Item} (c : Option (List ℕ))
    (ys : List Item) (r : Result (Unit {0}) E)
    → Prints form a b xs → OnOk r (Prints form b c ys) → OnOk r (Prints form a c (xs ++ ys))
prints_last c ys (Ok x) first second = prints_both _ _ _ _ _ _ first second
prints_last c ys (Err e) first second = tt

pub one_on_ok : {E : Type 0} (form : Form) (a b : Option (List ℕ)) (item : Item) (r : Result (Unit {0}) E)
    → ItemFits item → OnOk r (Gains a b (item_text form item)) → OnOk r (Prints form a b (item ∷ []))
one_on_ok form a b item (Ok x) fits gains = prints_one form a b item fits gains
one_on_ok form a b item (Err e) fits gains = tt

-- the values of an entry in the same way
pub cell_on_ok : {E : Type 0} (form : Form) (a b : Option (List ℕ)) (cell : Cell) (r : Result (Unit {0}) E)
    → Fits cell.value → OnOk r (Gains a b (cell_text form cell)) → OnOk r (PrintsCells form a b (cell ∷ []))
unfolding cells_text
cell_on_ok form a b cell (Ok x) fits gains =
    record { gains = subst (Gains a b) (sym (append-nil (cell_text form cell))) gains; fit = (fits, tt) }
cell_on_ok form a b cell (Err e) fits gains = tt

pub cells_none : (form : Form) (a : Option (List ℕ)) → PrintsCells form a a []
unfolding cells_text
cells_none form a = record { gains = gains_none a; fit = tt }

pub cells_both : (form : Form) (a b c : Option (List ℕ)) (xs ys : List Cell) → PrintsCells form a b xs
    → PrintsCells form b c ys → PrintsCells form a c (xs ++ ys)
unfolding cells_text
cells_both form a b c xs ys first second = record {
  gains = subst (Gains a c) (sym (flat_map-append (cell_text form) xs ys)) (first.gains then second.gains);
  fit = cells_fit xs ys first.fit second.fit;
}
