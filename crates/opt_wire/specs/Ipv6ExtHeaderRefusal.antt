-- Why bytes are not a header, and the printed texts of a header and of that reason.
use Rattle.std.specs.Prelude.{◌≡◌, ℕ, ◌≤◌, ◌<◌, List, [], ◌∷◌, length, codes, decimal}
use Rattle.opt_wire.specs.Words.{pieces, protocol_number}
use Rattle.opt_wire.specs.Ipv6ExtHeader.{header_end, HeaderValue, IsHeader}
use Rattle.opt_wire.specs.declared.ipv6ext_header.refusal.Refusal.{Refusal}

-- the bytes begin with a header
abbrev pub IsRead : List ℕ → Type 0
IsRead bytes = (header : HeaderValue) × IsHeader bytes header

-- why other bytes are refused: they are fewer than the first eight, or end before the payload does
abbrev pub Refuses : List ℕ → Refusal → Type 0
Refuses bytes Refusal.Short = length bytes < 8
Refuses bytes (Refusal.Cut n) = (8 ≤ length bytes) × (length bytes < n) × (n ≡ header_end bytes)

abbrev pub refusal_text : Refusal → List ℕ
refusal_text Refusal.Short = codes "fewer than 8 bytes"
refusal_text (Refusal.Cut n) = pieces (codes "fewer than the " ∷ decimal n ∷ codes " bytes that the header counts" ∷ [])

-- a header: the number of the next one, the length, and the bytes of the payload
abbrev pub header_display : HeaderValue → List ℕ
header_display header =
    pieces (codes "IPv6 Extension Header next_header=" ∷ decimal (protocol_number header.next_header)
    ∷ codes " length=" ∷ decimal header.count
    ∷ codes " len=" ∷ decimal (length header.payload) ∷ [])
