-- Why octets don't begin with a domain name, in words.
use Rattle.std.specs.Prelude.{ℕ, List, [], ◌∷◌, codes, decimal}
use Rattle.wirebase.specs.Display.{pieces}
use Rattle.neighbor_wire.specs.declared.names.NameRefusal.{NameRefusal}

abbrev pub refusal_display : NameRefusal → List ℕ
refusal_display NameRefusal.Cut = codes "the octets end before the name does"
refusal_display (NameRefusal.Label n) = pieces (codes "a label of length " ∷ decimal n ∷ [])
