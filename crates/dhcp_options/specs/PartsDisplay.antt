-- The printed texts.
use Rattle.std.specs.Prelude.{[], ◌∷◌, List, codes, decimal, ℕ}
use Rattle.dhcp_options.specs.Words.{Area, Refusal, pieces}

abbrev pub area_display : Area → List ℕ
area_display Area.Options = codes "options"
area_display Area.File = codes "file"
area_display Area.Sname = codes "sname"

abbrev pub refusal_display : Refusal → List ℕ
refusal_display refusal =
    pieces
    (codes "option " ∷ decimal refusal.kind ∷ codes " is cut at the end of " ∷ area_display refusal.area ∷ [])
