-- The areas of a packet as they are held, and what they give.
use Rattle.std.specs.Prelude.{◌≡◌, ◌++◌, List, Option, ℕ}
use Rattle.dhcp_options.specs.Words.{Area, Overload, options_in}
use Rattle.dhcp_options.specs.Parts.{PlacedAnswer}
use Rattle.dhcp_options.specs.private.Fields.{file_if, sname_if}
use Rattle.dhcp_options.specs.private.Fronts.{answers_in}
use Rattle.dhcp_options.specs.declared.areas.Areas.{Areas}

-- what the areas have still to give
abbrev pub answers_left : Areas → List PlacedAnswer
answers_left a =
    answers_in Area.Options a.options.now ++ (answers_in Area.File a.file.now ++ answers_in Area.Sname a.sname.now)

-- the areas of a packet, whole; a field that holds no options has no bytes here
pub record HasAreas (overload : Option Overload) (bytes : List ℕ) (held : Areas) : Type 0 where
  pub options : held.options.now ≡ options_in bytes
  pub file : held.file.now ≡ file_if overload bytes
  pub sname : held.sname.now ≡ sname_if overload bytes
