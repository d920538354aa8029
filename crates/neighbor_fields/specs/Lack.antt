-- Of what messages have less than they take or count.
use Rattle.std.specs.Prelude.{[], ◌∷◌, List, None, Option, Some, ℕ, codes}
use Rattle.packet_fields.specs.Fields.{Item, field, text}
use Rattle.neighbor_fields.specs.declared.lack.Lack.{Lack}

abbrev pub lack_text : Lack → List ℕ
lack_text Lack.Fields = codes "fewer bytes than the fields take"
lack_text Lack.Records = codes "fewer records than the report counts"
lack_text Lack.Sources = codes "fewer sources than the query counts"

-- that it is so, where it is
abbrev pub lack_items : Option Lack → List Item
lack_items None = []
lack_items (Some lack) = field (codes "refused") (text (lack_text lack)) ∷ []
