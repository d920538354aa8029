-- Fields of a kind that are printed where the last write does not fail.
use Rattle.std.proofs.Common.{Err, List, Ok, OnOk, Option, Result, ℕ}
use Rattle.packet_fields.specs.Fields.{Item}
use Rattle.packet_fields.specs.Prints.{Prints, PrintsSome}
use Rattle.packet_fields.specs.declared.form.Form.{Form}

pub printed_items : {E : Type 0} (AreItems : List Item → Type 0) (items : List Item) (form : Form)
    (a b : Option (List ℕ)) (r : Result (Unit {0}) E)
    → AreItems items → OnOk r (Prints form a b items) → OnOk r (PrintsSome form a b AreItems)
printed_items AreItems items form a b (Ok x) are prints = (items, are, prints)
printed_items AreItems items form a b (Err e) are prints = tt
