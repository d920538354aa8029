-- The texts of names, as they are read and kept: the results of private functions.
use Rattle.std.specs.Prelude.{◌≡◌, List, None, Option, Some, ℕ, take}
use Rattle.record_wire.specs.Name.{labels_of}
use Rattle.record_wire.specs.Names.{Names}
use Rattle.record_wire.specs.ZoneText.{whole_name}
use Rattle.record_wire.specs.declared.name.Name.{Name}
use Rattle.record_wire.specs.declared.name.name_text.NameText.{NameText}

-- The name that begins in these bytes, and goes on where its pointers lead in the message, reads, and has this text.
pub record NameReads (message bytes text : List ℕ) : Type 0 where
  pub labels : List (List ℕ)
  pub names : Names message bytes labels
  pub is : text ≡ whole_name labels

-- the text that was put, or that of a name
abbrev pub text_or : List ℕ → Option Name → List ℕ
text_or put None = put
text_or put (Some name) = whole_name (labels_of name)

abbrev pub text_of : NameText → List ℕ
text_of name = text_or (take name.len name.room) name.other
