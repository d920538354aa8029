-- What printing further entries of a list leaves.
use Rattle.std.specs.Prelude.{◌≡◌, ◌++◌, [], ◌∷◌, Bool, List, Option, ℕ, false, true}
use Rattle.packet_fields.specs.Fields.{Entry}
use Rattle.packet_fields.specs.private.Entries.{PrintsEntries}
use Rattle.packet_fields.specs.declared.form.Form.{Form}
use Rattle.extension_wire.specs.Object.{ObjectValue}
use Rattle.icmp_fields.specs.Extensions.{AreObjectEntries}

-- whether there are no entries
abbrev pub are_none : List Entry → Bool
are_none [] = true
are_none (e ∷ es) = false

-- these entries were printed behind others, of which there are none where the first one was to be printed
abbrev pub Continues : Form → Bool → Option (List ℕ) → Option (List ℕ) → List Entry → Type 0
Continues form is_first old new es =
    (start : Option (List ℕ)) (done : List Entry) → is_first ≡ are_none done → PrintsEntries form start old done
    → PrintsEntries form start new (done ++ es)

-- the entries of an object, one or more
pub record PrintsObject (form : Form) (is_first : Bool) (old new : Option (List ℕ)) (o : ObjectValue) : Type 0 where
  pub es : List Entry
  pub are : AreObjectEntries o es
  pub some : are_none es ≡ false
  pub prints : Continues form is_first old new es
