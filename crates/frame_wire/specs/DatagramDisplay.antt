-- What datagrams, their parts and their refusals print.
use Rattle.std.specs.Prelude.{[], ◌∷◌, List, None, Option, Some, ℕ, codes, decimal, length}
use Rattle.frame_wire.specs.Words.{Addresses, Extent, Head, Refusal, pieces}
use Rattle.wirebase.specs.Display.{truth_text}
use Rattle.wirebase.specs.Ip.{protocol_display}
use Rattle.wirebase.specs.Ipv4.{address_text as address_text_v4}
use Rattle.wirebase.specs.Ipv6Address.{address_text}
use Rattle.frame_wire.specs.Captured.{CapturedValue}
use Rattle.frame_wire.specs.Datagram.{DatagramValue}

abbrev pub addresses_display : Addresses → List ℕ
addresses_display (Addresses.V4 src dst) = pieces (address_text_v4 src ∷ codes " > " ∷ address_text_v4 dst ∷ [])
addresses_display (Addresses.V6 src dst) = pieces (address_text src ∷ codes " > " ∷ address_text dst ∷ [])

-- what is known of a datagram that is not read, with its place among the fragments where it has an identification
abbrev head_by : Head → Option ℕ → List ℕ
head_by h (Some ident) =
    pieces (addresses_display h.addresses ∷ codes " protocol=" ∷ protocol_display h.protocol
    ∷ codes " ident=" ∷ decimal ident
    ∷ codes " frag_offset=" ∷ decimal h.frag_offset
    ∷ codes " more_frags=" ∷ truth_text h.more_frags ∷ [])
head_by h None =
    pieces (addresses_display h.addresses ∷ codes " protocol=" ∷ protocol_display h.protocol ∷ [])

abbrev pub head_display : Head → List ℕ
head_display h = head_by h h.ident

abbrev pub refusal_display : Refusal → List ℕ
refusal_display Refusal.Short = codes "fewer bytes than the fixed header has"
refusal_display (Refusal.Version n) = pieces (codes "version " ∷ decimal n ∷ codes " is not read" ∷ [])
refusal_display (Refusal.HeaderLen n) =
    pieces (codes "a header length of " ∷ decimal n ∷ codes " is below 20" ∷ [])
refusal_display (Refusal.TotalLen n) =
    pieces (codes "a total length of " ∷ decimal n ∷ codes " is below that of the header" ∷ [])
refusal_display (Refusal.Cut head) = pieces (codes "cut short, " ∷ head_display head ∷ [])
refusal_display Refusal.Jumbogram = codes "a malformed jumbogram"
refusal_display (Refusal.Extension p) =
    pieces (codes "the extension header " ∷ protocol_display p ∷ codes " is cut short" ∷ [])
refusal_display (Refusal.Fragment head) = pieces (codes "a fragment, " ∷ head_display head ∷ [])

abbrev pub datagram_display : DatagramValue → List ℕ
datagram_display d =
    pieces (addresses_display d.addresses ∷ codes " protocol=" ∷ protocol_display d.protocol
    ∷ codes " hop_limit=" ∷ decimal d.hop_limit
    ∷ codes " len=" ∷ decimal (length d.payload) ∷ [])

-- how much of a datagram is there
abbrev pub extent_display : Extent → List ℕ
extent_display Extent.Whole = codes "whole"
extent_display (Extent.Cut missing) = pieces (codes "cut missing=" ∷ decimal missing ∷ [])
extent_display Extent.Unstated = codes "of no stated length"

abbrev pub captured_display : CapturedValue → List ℕ
captured_display c = pieces (datagram_display c.datagram ∷ codes " " ∷ extent_display c.extent ∷ [])
