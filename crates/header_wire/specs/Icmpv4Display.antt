-- What messages and their refusals print.
use Rattle.std.specs.Prelude.{ℕ, List, [], ◌∷◌, codes, decimal}
use Rattle.wirebase.specs.Display.{pieces}
use Rattle.wirebase.specs.Ipv4.{address_text}
use Rattle.header_wire.specs.Icmpv4.{Value, timestamp, timestamp_reply, mask_request, mask_reply, solicitation}
use Rattle.header_wire.specs.Icmpv4.{advertisement, extended_request, extended_reply, Advert}
use Rattle.header_wire.specs.ExtendedEchoDisplay.{request_display, reply_display}
use Rattle.header_wire.specs.declared.icmpv4.AddressMask.{AddressMask}
use Rattle.header_wire.specs.declared.icmpv4.Refusal.{Refusal}
use Rattle.header_wire.specs.declared.icmpv4.Timestamp.{Timestamp}

abbrev pub times_display : Timestamp → List ℕ
times_display t =
    pieces (codes "id=" ∷ decimal t.ident
    ∷ codes " seq=" ∷ decimal t.seq_no
    ∷ codes " originate=" ∷ decimal t.originate
    ∷ codes " receive=" ∷ decimal t.receive
    ∷ codes " transmit=" ∷ decimal t.transmit ∷ [])

abbrev pub mask_display : AddressMask → List ℕ
mask_display m =
    pieces (codes "id=" ∷ decimal m.ident
    ∷ codes " seq=" ∷ decimal m.seq_no
    ∷ codes " mask=" ∷ address_text m.mask ∷ [])

abbrev pub advert_display : Advert → List ℕ
advert_display a = pieces (codes "lifetime=" ∷ decimal a.lifetime ∷ codes " routers=" ∷ decimal a.count ∷ [])

abbrev pub message_display : Value → List ℕ
message_display (timestamp t) = pieces (codes "ICMPv4 timestamp " ∷ times_display t ∷ [])
message_display (timestamp_reply t) = pieces (codes "ICMPv4 timestamp reply " ∷ times_display t ∷ [])
message_display (mask_request m) = pieces (codes "ICMPv4 address mask request " ∷ mask_display m ∷ [])
message_display (mask_reply m) = pieces (codes "ICMPv4 address mask reply " ∷ mask_display m ∷ [])
message_display solicitation = codes "ICMPv4 router solicitation"
message_display (advertisement a) = pieces (codes "ICMPv4 router advertisement " ∷ advert_display a ∷ [])
message_display (extended_request r) = pieces (codes "ICMPv4 extended echo request " ∷ request_display r ∷ [])
message_display (extended_reply r) = pieces (codes "ICMPv4 extended echo reply " ∷ reply_display r ∷ [])

abbrev pub refusal_display : Refusal → List ℕ
refusal_display Refusal.Short = codes "fewer than 8 bytes"
refusal_display Refusal.Checksum = codes "the checksum does not hold"
refusal_display (Refusal.UnknownType n) = pieces (codes "type " ∷ decimal n ∷ codes " is not read" ∷ [])
refusal_display (Refusal.Code n) = pieces (codes "code " ∷ decimal n ∷ codes " is not 0" ∷ [])
refusal_display Refusal.Length = codes "fewer bytes than a message of this type has"
refusal_display Refusal.NoRouters = codes "an advertisement of no routers"
refusal_display (Refusal.EntrySize n) = pieces (codes "entries of " ∷ decimal n ∷ codes " words are below 2" ∷ [])
refusal_display Refusal.Cut = codes "the routers of an advertisement are cut short"
