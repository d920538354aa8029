-- What refusals and faults print.
use Rattle.std.specs.Prelude.{List, codes, ℕ}
use Rattle.reassembly.specs.Types.{Fault, Refusal}

-- why a fragment is not taken, as a phrase
abbrev pub refusal_display : Refusal → List ℕ
refusal_display Refusal.Empty = codes "no payload"
refusal_display Refusal.Unfragmented = codes "a whole datagram"
refusal_display Refusal.Length = codes "a length that is no multiple of 8, and more fragments"
refusal_display Refusal.TooLong = codes "bytes past the 65535 of a datagram"
refusal_display Refusal.Options = codes "hop-by-hop options longer than a header"
refusal_display Refusal.Discarded = codes "a datagram that was discarded"
refusal_display Refusal.Overlap = codes "bytes that another fragment has"
refusal_display Refusal.End = codes "bytes past the end of the datagram"
refusal_display Refusal.TooMany = codes "more fragments than are kept"

-- what keeps it from being taken or refused
abbrev pub fault_display : Fault → List ℕ
fault_display Fault.Memory = codes "no memory"
