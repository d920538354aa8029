-- The printed texts of ICMPv6 messages.
use Rattle.std.specs.Prelude.{ℕ, List, [], ◌∷◌, codes, decimal, length}
use Rattle.icmp6_wire.specs.Words.{pieces}
use Rattle.icmp6_wire.specs.Icmpv6.{MessageValue, unreachable, too_big, time_exceeded, param_problem, echo_request}
use Rattle.icmp6_wire.specs.Icmpv6.{echo_reply, ndisc, mld}
use Rattle.icmp6_wire.specs.Icmpv6Tables.{unreachable_text, time_exceeded_text, param_problem_text}
use Rattle.icmp6_wire.specs.MldDisplay as listeners
use Rattle.icmp6_wire.specs.NdiscDisplay as neighbors
use Rattle.icmp6_wire.specs.declared.icmpv6.refusal.Refusal.{Refusal}

-- a message: an error by its reason and the word after the checksum, an echo by its numbers and the bytes of its data,
-- and a message of neighbor discovery or of multicast listener discovery as it prints alone
abbrev pub repr_display : MessageValue → List ℕ
repr_display (unreachable reason quoted d) =
    pieces (codes "ICMPv6 destination unreachable (" ∷ unreachable_text reason ∷ codes ")" ∷ [])
repr_display (too_big mtu quoted d) = pieces (codes "ICMPv6 packet too big mtu=" ∷ decimal mtu ∷ [])
repr_display (time_exceeded reason quoted d) =
    pieces (codes "ICMPv6 time exceeded (" ∷ time_exceeded_text reason ∷ codes ")" ∷ [])
repr_display (param_problem reason pointer quoted d) =
    pieces (codes "ICMPv6 parameter problem (" ∷ param_problem_text reason
    ∷ codes ") pointer=" ∷ decimal pointer ∷ [])
repr_display (echo_request ident seq_no d) =
    pieces (codes "ICMPv6 echo request id=" ∷ decimal ident
    ∷ codes " seq=" ∷ decimal seq_no
    ∷ codes " len=" ∷ decimal (length d) ∷ [])
repr_display (echo_reply ident seq_no d) =
    pieces (codes "ICMPv6 echo reply id=" ∷ decimal ident
    ∷ codes " seq=" ∷ decimal seq_no
    ∷ codes " len=" ∷ decimal (length d) ∷ [])
repr_display (ndisc m) = neighbors.repr_display m
repr_display (mld m) = listeners.repr_display m

-- why octets are refused
abbrev pub refusal_display : Refusal → List ℕ
refusal_display Refusal.Short = codes "fewer than 8 bytes"
refusal_display (Refusal.UnknownType t) = pieces (codes "type " ∷ decimal t ∷ codes " is not read" ∷ [])
refusal_display Refusal.Length = codes "fewer bytes than the header of its type"
refusal_display Refusal.Checksum = codes "the checksum does not hold"
refusal_display Refusal.Quote = codes "an error that quotes fewer than 40 bytes"
refusal_display (Refusal.Code code) = pieces (codes "code " ∷ decimal code ∷ codes " is not read" ∷ [])
refusal_display (Refusal.Ndisc reason) = neighbors.refusal_display reason
