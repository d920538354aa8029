-- What requests about an interface and their answers print.
use Rattle.std.specs.Prelude.{ℕ, List, [], ◌∷◌, codes, decimal, length}
use Rattle.wirebase.specs.Display.{pieces, truth_text}
use Rattle.header_wire.specs.ExtendedEcho.{Request}
use Rattle.header_wire.specs.declared.extended_echo.ExtendedEchoReply.{ExtendedEchoReply}

abbrev pub request_display : Request → List ℕ
request_display r =
    pieces (codes "id=" ∷ decimal r.ident
    ∷ codes " seq=" ∷ decimal r.seq_no
    ∷ codes " local=" ∷ truth_text r.local
    ∷ codes " len=" ∷ decimal (length r.structure) ∷ [])

abbrev pub reply_display : ExtendedEchoReply → List ℕ
reply_display r =
    pieces (codes "code=" ∷ decimal r.code
    ∷ codes " id=" ∷ decimal r.ident
    ∷ codes " seq=" ∷ decimal r.seq_no
    ∷ codes " state=" ∷ decimal r.state
    ∷ codes " active=" ∷ truth_text r.active
    ∷ codes " ipv4=" ∷ truth_text r.ipv4
    ∷ codes " ipv6=" ∷ truth_text r.ipv6 ∷ [])
