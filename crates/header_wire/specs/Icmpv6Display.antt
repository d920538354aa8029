-- What messages and their refusals print.
use Rattle.std.specs.Prelude.{ℕ, List, [], ◌∷◌, codes, decimal, length}
use Rattle.wirebase.specs.Display.{pieces}
use Rattle.header_wire.specs.Icmpv6.{Value, node_query, node_reply, extended_request, extended_reply, Node}
use Rattle.header_wire.specs.ExtendedEchoDisplay.{request_display, reply_display}
use Rattle.header_wire.specs.declared.icmpv6.Refusal.{Refusal}

abbrev pub node_display : Node → List ℕ
node_display n =
    pieces (codes "code=" ∷ decimal n.code
    ∷ codes " qtype=" ∷ decimal n.qtype
    ∷ codes " flags=" ∷ decimal n.flags
    ∷ codes " nonce=" ∷ decimal n.nonce
    ∷ codes " len=" ∷ decimal (length n.octets) ∷ [])

abbrev pub message_display : Value → List ℕ
message_display (node_query n) = pieces (codes "ICMPv6 node information query " ∷ node_display n ∷ [])
message_display (node_reply n) = pieces (codes "ICMPv6 node information reply " ∷ node_display n ∷ [])
message_display (extended_request r) = pieces (codes "ICMPv6 extended echo request " ∷ request_display r ∷ [])
message_display (extended_reply r) = pieces (codes "ICMPv6 extended echo reply " ∷ reply_display r ∷ [])

abbrev pub refusal_display : Refusal → List ℕ
refusal_display Refusal.Short = codes "fewer than 8 bytes"
refusal_display Refusal.Checksum = codes "the checksum does not hold"
refusal_display (Refusal.UnknownType n) = pieces (codes "type " ∷ decimal n ∷ codes " is not read" ∷ [])
refusal_display Refusal.Length = codes "fewer bytes than a message of this type has"
