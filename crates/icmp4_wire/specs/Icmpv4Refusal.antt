-- Why octets are not a message of ICMPv4 (RFC 792): the first check that fails.
use Rattle.std.specs.Prelude.{ℕ, List, [], ◌∷◌, codes, decimal}
use Rattle.icmp4_wire.specs.Words.{ChecksumCapabilities, Fails, pieces}
use Rattle.icmp4_wire.specs.declared.icmpv4.refusal.Refusal.{Refusal}
use Rattle.icmp4_wire.specs.Icmpv4.{MessageValue, checks, IsMessage}

-- the octets are some message
abbrev pub IsRead : ChecksumCapabilities → List ℕ → Type 0
IsRead capabilities bytes = (v : MessageValue) × IsMessage capabilities bytes v

abbrev pub Refuses : ChecksumCapabilities → List ℕ → Refusal → Type 0
Refuses capabilities bytes why = Fails (checks capabilities bytes) why

-- the printed text of a reason
abbrev pub refusal_display : Refusal → List ℕ
refusal_display Refusal.Short = codes "fewer than 8 bytes"
refusal_display Refusal.Checksum = codes "the checksum does not hold"
refusal_display (Refusal.UnknownType t) = pieces (codes "type " ∷ decimal t ∷ codes " is not read" ∷ [])
refusal_display (Refusal.UnknownCode code) =
    pieces (codes "an echo of code " ∷ decimal code ∷ codes " is not read" ∷ [])
refusal_display Refusal.QuotedHeader = codes "the quoted header is cut"
refusal_display Refusal.QuotedLength = codes "the quoted header is longer than its packet"
refusal_display Refusal.QuoteCut = codes "the quoted packet is cut"
refusal_display Refusal.QuotedData = codes "fewer than 8 bytes stand behind the quoted header"
