-- Why octets are not a message of IGMP (RFC 2236 section 2): the first check that fails.
use Rattle.std.specs.Prelude.{ℕ, List, [], ◌∷◌, codes, decimal}
use Rattle.icmp4_wire.specs.Words.{Fails, address_text, pieces}
use Rattle.icmp4_wire.specs.declared.igmp.refusal.Refusal.{Refusal}
use Rattle.icmp4_wire.specs.declared.igmp.repr.Repr.{Repr}
use Rattle.icmp4_wire.specs.Igmp.{checks, IsMessage}

-- the octets begin with some message
abbrev pub IsRead : List ℕ → Type 0
IsRead bytes = (r : Repr) × IsMessage bytes r

abbrev pub Refuses : List ℕ → Refusal → Type 0
Refuses bytes why = Fails (checks bytes) why

-- the printed text of a reason
abbrev pub refusal_display : Refusal → List ℕ
refusal_display Refusal.Short = codes "fewer than 8 bytes"
refusal_display (Refusal.UnknownType t) = pieces (codes "type " ∷ decimal t ∷ codes " is not read" ∷ [])
refusal_display (Refusal.Group group) =
    pieces (codes "group " ∷ address_text group ∷ codes " is neither 0.0.0.0 nor multicast" ∷ [])
