-- What octets begin with, and what an area gives, as it is computed.
use Rattle.std.specs.Prelude.{◌≡◌, ◌≤◌, ◌++◌, ◌∷◌, [], List, None, Ok, Some, length, map, ℕ}
use Rattle.dhcp_wire.specs.Dhcpv4Options.{value_of_option}
use Rattle.dhcp_options.specs.Words.{Area}
use Rattle.dhcp_options.specs.Parts.{PlacedAnswer, PlacedValue, placed, refusal_in}
use Rattle.dhcp_options.specs.private.Ahead.{Ahead, ahead, ahead_of}
use Rattle.dhcp_options.specs.declared.front.Front.{Front}
use Rattle.dhcp_options.specs.declared.front.Placed.{Placed}

-- an option and what is ahead of it; or nothing, where an option is cut or the area ends
abbrev pub IsFront : List ℕ → Front → Type 0
IsFront bytes (Front.Whole option rest) =
    (ahead_of bytes ≡ ahead (value_of_option option ∷ (ahead_of rest.now).options) (ahead_of rest.now).cut)
    × (length rest.now ≤ length bytes)
IsFront bytes (Front.Cut kind) = ahead_of bytes ≡ ahead [] (Some kind)
IsFront bytes Front.End = ahead_of bytes ≡ ahead [] None

abbrev pub placed_of : Placed → PlacedValue
placed_of p = placed p.area (value_of_option p.option)

abbrev pub given : Area → Ahead → List PlacedAnswer
given area a = map (λ option. Ok (placed area option)) a.options ++ refusal_in area a.cut

-- what the bytes of an area give
unfoldable pub answers_in : Area → List ℕ → List PlacedAnswer
answers_in area bytes = given area (ahead_of bytes)
