-- Options printed.
use Rattle.std.specs.Prelude.{ℕ, ◌*◌, ◌==◌, ◌||◌, ◌&&◌, nat_le, if◌then◌else◌, List, [], ◌∷◌, ◌++◌, replicate, codes}
use Rattle.std.specs.Prelude.{decimal, flat_map}
use Rattle.wirebase.specs.Bytes.{over}
use Rattle.wirebase.specs.Display.{pieces, truth_text}
use Rattle.wirebase.specs.Hexadecimal.{encode_lower, hex_colons, octets_text as hex_or_dash}
use Rattle.neighbor_wire.specs.Nat64.{length_bits}
use Rattle.neighbor_wire.specs.Option.{Value, source, target, prefix, mtu, nonce, route, servers, search_list, portal}
use Rattle.neighbor_wire.specs.Option.{nat64, other}
use Rattle.neighbor_wire.specs.Preference.{preference_text}
use Rattle.neighbor_wire.specs.ServersDisplay.{octets_text, servers_display}

-- A byte of a text: quotation marks and backslashes are printed after a backslash, other visible characters of ASCII
-- and spaces as they are, and every other byte as a backslash, an x and two hexadecimal digits.
abbrev pub character : ℕ → List ℕ
character n =
    if (n == 34) || (n == 92) then 92 ∷ n ∷ []
    else if nat_le 32 n && nat_le n 126 then n ∷ []
    else codes "\\x" ++ encode_lower (n ∷ [])

abbrev pub quoted : List ℕ → List ℕ
quoted bytes = pieces (codes "\"" ∷ flat_map character bytes ∷ codes "\"" ∷ [])

-- the address that some octets begin, with zeros behind them
abbrev pub front_text : List ℕ → List ℕ
front_text octets = octets_text (over (replicate 16 0) octets)

abbrev pub display : Value → List ℕ
display (source octets) = codes "source link-layer address " ++ hex_colons octets
display (target octets) = codes "target link-layer address " ++ hex_colons octets
display (prefix bits on_link autonomous router valid preferred octets) =
    pieces (codes "prefix " ∷ octets_text octets ∷ codes "/" ∷ decimal bits
    ∷ codes " on_link=" ∷ truth_text on_link
    ∷ codes " autonomous=" ∷ truth_text autonomous
    ∷ codes " router_address=" ∷ truth_text router
    ∷ codes " valid_lifetime=" ∷ decimal valid
    ∷ codes " preferred_lifetime=" ∷ decimal preferred ∷ [])
display (mtu n) = codes "MTU " ++ decimal n
display (nonce octets) = codes "nonce " ++ hex_or_dash octets
display (route bits preference lifetime octets) =
    pieces (codes "route " ∷ front_text octets ∷ codes "/" ∷ decimal bits
    ∷ codes " preference=" ∷ preference_text preference
    ∷ codes " lifetime=" ∷ decimal lifetime ∷ [])
display (servers lifetime octets) =
    pieces (codes "DNS servers lifetime=" ∷ decimal lifetime ∷ servers_display octets ∷ [])
display (search_list lifetime octets) =
    pieces (codes "search list lifetime=" ∷ decimal lifetime ∷ codes " names=" ∷ hex_or_dash octets ∷ [])
display (portal octets) = codes "captive portal " ++ quoted octets
display (nat64 scaled bits octets) =
    pieces (codes "NAT64 prefix " ∷ front_text octets ∷ codes "/" ∷ decimal (length_bits bits)
    ∷ codes " lifetime=" ∷ decimal (8 * scaled) ∷ [])
display (other t octets) = pieces (codes "option " ∷ decimal t ∷ codes " data=" ∷ hex_or_dash octets ∷ [])
