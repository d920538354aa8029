-- What fragment headers and their refusals print.
use Rattle.std.specs.Prelude.{ℕ, List, [], ◌∷◌, codes, decimal}
use Rattle.wirebase.specs.Display.{pieces, truth_text}
use Rattle.wirebase.specs.Ip.{protocol_display}
use Rattle.header_wire.specs.declared.ipv6_fragment.Header.{Header}
use Rattle.header_wire.specs.declared.ipv6_fragment.Refusal.{Refusal}

abbrev pub header_display : Header → List ℕ
header_display h =
    pieces (codes "next_header=" ∷ protocol_display h.next_header
    ∷ codes " ident=" ∷ decimal h.ident
    ∷ codes " more_frags=" ∷ truth_text h.more_frags
    ∷ codes " offset=" ∷ decimal h.frag_offset ∷ [])

abbrev pub refusal_display : Refusal → List ℕ
refusal_display Refusal.Short = codes "fewer than 8 bytes"
