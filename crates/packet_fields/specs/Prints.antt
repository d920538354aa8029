-- What printing fields leaves.
use Rattle.std.specs.Prelude.{List, Option, ℕ}
use Rattle.packet_fields.specs.Output.{Gains}
use Rattle.packet_fields.specs.Fields.{Cell, CellsFit, Item, ItemsFit, cells_text, items_text}
use Rattle.packet_fields.specs.declared.form.Form.{Form}

-- an output that held `old` holds `new`: these fields were printed
pub record Prints (form : Form) (old new : Option (List ℕ)) (items : List Item) : Type 0 where
  pub gains : Gains old new (items_text form items)
  pub fit : ItemsFit items

-- fields of this kind were printed
abbrev pub PrintsSome : Form → Option (List ℕ) → Option (List ℕ) → (List Item → Type 0) → Type 0
PrintsSome form old new AreItems = (items : List Item) × AreItems items × Prints form old new items

-- these values of an entry were printed
pub record PrintsCells (form : Form) (old new : Option (List ℕ)) (cells : List Cell) : Type 0 where
  pub gains : Gains old new (cells_text form cells)
  pub fit : CellsFit cells
