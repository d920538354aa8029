-- What options and their refusals print.
use Rattle.std.specs.Prelude.{ℕ, List, [], ◌∷◌, codes, decimal, length}
use Rattle.wirebase.specs.Display.{pieces}
use Rattle.header_wire.specs.Options.{OptionValue, no_operation, router_alert, other}
use Rattle.header_wire.specs.declared.options.OptionRefusal.{OptionRefusal}

abbrev pub option_display : OptionValue → List ℕ
option_display no_operation = codes "no operation"
option_display (router_alert value) = pieces (codes "router alert value=" ∷ decimal value ∷ [])
option_display (other kind d) =
    pieces (codes "option kind=" ∷ decimal kind ∷ codes " len=" ∷ decimal (length d) ∷ [])

abbrev pub refusal_display : OptionRefusal → List ℕ
refusal_display OptionRefusal.NoLength = codes "an option ends before its length"
refusal_display (OptionRefusal.Length n) = pieces (codes "a length of " ∷ decimal n ∷ codes " is below 2" ∷ [])
refusal_display (OptionRefusal.Cut n) =
    pieces (codes "fewer than the " ∷ decimal n ∷ codes " bytes of an option" ∷ [])
