-- Fields that are printed in a row, and what is told of them.
use Rattle.std.proofs.Common.{◌++◌, Err, List, Ok, OnOk, Option, Result, ℕ}
use Rattle.packet_fields.specs.Fields.{Item}
use Rattle.packet_fields.specs.Prints.{Prints}
use Rattle.packet_fields.specs.declared.form.Form.{Form}
use Rattle.packet_fields.proofs.Fields.{prints_both}

-- the last of which may fail, and tells something
pub told_last : {T E : Type 0} {form : Form} {a b : Option (List ℕ)} {xs : List Item} (c : Option (List ℕ))
    (ys : List Item) (r : Result T E)
    → Prints form a b xs → OnOk r (Prints form b c ys) → OnOk r (Prints form a c (xs ++ ys))
told_last c ys (Ok x) first second = prints_both _ _ _ _ _ _ first second
told_last c ys (Err e) first second = tt
