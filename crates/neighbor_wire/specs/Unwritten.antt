-- Which options are written, and why one is not.
use Rattle.std.specs.Prelude.{◌≡◌, ℕ, ◌*◌, ◌%◌, ◌^◌, ◌≤◌, ◌<◌, List, [], ◌∷◌, ◌++◌, length, codes, decimal}
use Rattle.wirebase.specs.Checks.{Check, check}
use Rattle.wirebase.specs.Display.{pieces}
use Rattle.neighbor_wire.specs.declared.kind.Kind.{Kind}
use Rattle.neighbor_wire.specs.declared.unwritten.Unwritten.{Unwritten}
use Rattle.neighbor_wire.specs.Kind.{kind_of}
use Rattle.neighbor_wire.specs.Option.{Value, prefix, route, servers, search_list, portal}
use Rattle.neighbor_wire.specs.Option.{nat64, other, units, body_len, text_len, strip}

-- The checks of what an option says, in their order. A prefix has at most 128 bits, and in a route no more than there
-- are; a route has 0, 8 or 16 octets, DNS servers and names are some, and a NAT64 prefix has 12 octets and a scaled
-- lifetime of 13 bits. A URI is without the zeros that a reader takes off, and an other option has a type that a reader
-- takes for no other case.
abbrev pub content_checks : Value → List (Check Unwritten)
content_checks (prefix bits on_link autonomous router valid preferred octets) =
    check (bits ≤ 128) (Unwritten.PrefixLength bits) ∷ []
content_checks (route bits preference lifetime octets) =
    check ((length octets % 8 ≡ 0) × (length octets ≤ 16)) (Unwritten.Octets 24 (length octets))
    ∷ check (bits ≤ 8 * length octets) (Unwritten.PrefixLength bits) ∷ []
content_checks (servers lifetime octets) =
    check ((1 ≤ length octets) × (length octets % 16 ≡ 0)) (Unwritten.Octets 25 (length octets)) ∷ []
content_checks (search_list lifetime octets) =
    check (1 ≤ length octets) (Unwritten.Octets 31 (length octets)) ∷ []
content_checks (portal octets) = check (strip octets ≡ octets) Unwritten.LastZero ∷ []
content_checks (nat64 scaled bits octets) =
    check (length octets ≡ 12) (Unwritten.Octets 38 (length octets))
    ∷ check (scaled < 2 ^ 13) Unwritten.ScaledLifetime ∷ []
content_checks (other t octets) = check (kind_of t ≡ Kind.Other) (Unwritten.Kind t) ∷ []
content_checks v = []

-- The checks of an option that is to be written, which hold exactly where it is canonical: a byte counts its units, and
-- what it says is read back. Where a given number of bytes are free, it also has room.
abbrev pub value_checks : Value → List (Check Unwritten)
value_checks v = check (units (body_len v) < 256) Unwritten.Long ∷ content_checks v

abbrev pub push_checks : ℕ → Value → List (Check Unwritten)
push_checks room v = value_checks v ++ check (text_len v ≤ room) Unwritten.Full ∷ []

-- why an option is not written, in words
abbrev pub unwritten_display : Unwritten → List ℕ
unwritten_display Unwritten.Long = codes "more than 255 units of 8 bytes"
unwritten_display (Unwritten.Octets t n) =
    pieces (decimal n ∷ codes " octets are not allowed for type " ∷ decimal t ∷ [])
unwritten_display (Unwritten.PrefixLength n) = pieces (decimal n ∷ codes " bits are too many for the prefix" ∷ [])
unwritten_display Unwritten.LastZero = codes "a URI with a zero at its end"
unwritten_display Unwritten.ScaledLifetime = codes "a scaled lifetime of 8192 or more"
unwritten_display (Unwritten.Kind t) =
    pieces (codes "type " ∷ decimal t ∷ codes " is not written by its octets alone" ∷ [])
unwritten_display Unwritten.Full = codes "fewer bytes are free than the option takes"
