-- What headers and their refusals print.
use Rattle.std.specs.Prelude.{ℕ, List, [], ◌∷◌, codes, decimal, length}
use Rattle.wirebase.specs.Display.{pieces, truth_text}
use Rattle.wirebase.specs.Ip.{protocol_display}
use Rattle.wirebase.specs.Ipv4.{address_text}
use Rattle.header_wire.specs.declared.ipv4.Header.{Header}
use Rattle.header_wire.specs.declared.ipv4.Refusal.{Refusal}

-- the way of a packet, and what it has: its place among fragments, and its lengths
abbrev pub way_display : Header → List ℕ
way_display v =
    pieces (address_text v.src_addr ∷ codes " > " ∷ address_text v.dst_addr
    ∷ codes " protocol=" ∷ protocol_display v.protocol
    ∷ codes " service=" ∷ decimal v.service
    ∷ codes " hop_limit=" ∷ decimal v.hop_limit ∷ [])

abbrev pub extent_display : Header → List ℕ
extent_display v =
    pieces (codes "ident=" ∷ decimal v.ident
    ∷ codes " dont_frag=" ∷ truth_text v.dont_frag
    ∷ codes " more_frags=" ∷ truth_text v.more_frags
    ∷ codes " offset=" ∷ decimal v.frag_offset
    ∷ codes " options=" ∷ decimal (length v.options.now)
    ∷ codes " len=" ∷ decimal v.payload_len ∷ [])

abbrev pub header_display : Header → List ℕ
header_display v = pieces (way_display v ∷ codes " " ∷ extent_display v ∷ [])

abbrev pub refusal_display : Refusal → List ℕ
refusal_display Refusal.Short = codes "fewer than 20 bytes"
refusal_display (Refusal.Version n) = pieces (codes "version " ∷ decimal n ∷ codes " is not read" ∷ [])
refusal_display (Refusal.HeaderLen n) =
    pieces (codes "a header length of " ∷ decimal n ∷ codes " is below 20" ∷ [])
refusal_display (Refusal.HeaderCut n) =
    pieces (codes "fewer than the " ∷ decimal n ∷ codes " bytes of the header" ∷ [])
refusal_display (Refusal.TotalLen n) =
    pieces (codes "a total length of " ∷ decimal n ∷ codes " is below that of the header" ∷ [])
refusal_display (Refusal.Cut n) = pieces (codes "fewer than the " ∷ decimal n ∷ codes " bytes of the packet" ∷ [])
refusal_display Refusal.Checksum = codes "the checksum does not hold"
