-- The page of what the messages of a capture say.
use Rattle.std.specs.Prelude.{◌≡◌, [], ◌++◌, Bool, List, Option, codes, false, true, ℕ}
use Rattle.packet_fields.specs.Fields.{Item, items_text}
use Rattle.packet_fields.specs.declared.form.Form.{Form}
use Rattle.packet_fields.specs.declared.form.Form.TheVariants.{Json, Lines}
use Rattle.packet_stats.specs.Shown.{page_items}
use Rattle.packet_stats.specs.Stats.{SortsAll, State}
use Rattle.dump_captures.specs.Pairing.{summary_object}
use Rattle.dump_captures.specs.declared.options.Options.{Options}

abbrev pub page_text : List ℕ
page_text = codes "statistics"

-- below a line that says so; in JSON an object
abbrev pub statistics_text : Form → Option (List ℕ) → List Item → List ℕ
statistics_text Lines file items = page_text ++ codes "\n" ++ items_text Lines items
statistics_text Json file items = summary_object page_text file items

-- a page, whose tables are in the order of pages
pub record Page (options : Options) (file : Option (List ℕ)) (counts : State) (shown : List ℕ) : Type 0 where
  pub sorted : State
  pub sorts : SortsAll counts sorted
  pub text_is : shown ≡ statistics_text options.form file (page_items options.form sorted)

-- only where it is asked for
abbrev pub PageIf : Bool → Options → Option (List ℕ) → State → List ℕ → Type 0
PageIf true options file counts shown = Page options file counts shown
PageIf false options file counts shown = shown ≡ []
