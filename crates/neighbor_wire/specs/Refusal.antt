-- Why octets are refused as an option, in words.
use Rattle.std.specs.Prelude.{ℕ, List, [], ◌∷◌, codes, decimal}
use Rattle.wirebase.specs.Display.{pieces}
use Rattle.neighbor_wire.specs.declared.refusal.Refusal.{Refusal}

abbrev pub refusal_display : Refusal → List ℕ
refusal_display Refusal.Short = codes "fewer than 8 bytes"
refusal_display Refusal.Zero = codes "a length of 0"
refusal_display (Refusal.Counted n) =
    pieces (codes "other than the " ∷ decimal n ∷ codes " bytes that the option counts" ∷ [])
refusal_display (Refusal.Units t n) =
    pieces (codes "a length of " ∷ decimal n ∷ codes " is not allowed for type " ∷ decimal t ∷ [])
refusal_display (Refusal.PrefixLength n) = pieces (decimal n ∷ codes " bits are too many for the prefix" ∷ [])
refusal_display (Refusal.LengthCode n) = pieces (codes "no prefix length has the code " ∷ decimal n ∷ [])
