-- What segments of TCP and their refusals print.
use Rattle.std.specs.Prelude.{[], ◌∷◌, List, ℕ, codes, decimal, length}
use Rattle.frame_wire.specs.Words.{pieces}
use Rattle.frame_wire.specs.Tcp.{SegmentValue}
use Rattle.frame_wire.specs.declared.tcp.Refusal.{Refusal}

-- a segment by its ports and its bytes of data
abbrev pub segment_display : SegmentValue → List ℕ
segment_display s =
    pieces (codes "TCP src=" ∷ decimal s.src_port ∷ codes " dst=" ∷ decimal s.dst_port
    ∷ codes " len=" ∷ decimal (length s.payload) ∷ [])

abbrev pub refusal_display : Refusal → List ℕ
refusal_display Refusal.Short = codes "fewer than the 20 bytes of a TCP header"
refusal_display (Refusal.HeaderLen n) =
    pieces (codes "a TCP header length of " ∷ decimal n ∷ codes " is below 20" ∷ [])
refusal_display (Refusal.Cut n) = pieces (codes "fewer than the " ∷ decimal n ∷ codes " bytes of the TCP header" ∷ [])
