-- Addresses with commas between them, and one that may be missing.
use Rattle.listing.proofs.Words.{◌≡◌, ◌-◌, ◌≤◌, [], ◌∷◌, ◌++◌, Ipv4Address, List, ℕ, address_text, arith, codes, drop}
use Rattle.listing.proofs.Words.{get_or, length, refl, take, take_all}
use Rattle.std.specs.Option.{option_map}
use Rattle.std.specs.Prelude.{flat_map, Option, None, Some}
use Rattle.wirebase.specs.HardwareAddress.{ethernet_of}
use Rattle.wirebase.specs.declared.ethernet.EthernetAddress.{EthernetAddress}
use Rattle.listing.specs.Layout.{text_or_none}
use Rattle.listing.specs.ListingDhcp.{addresses_text, hardware_text}

-- an address after a comma
abbrev pub with_comma : Ipv4Address → List ℕ
with_comma next = codes "," ++ address_text next

pub addresses_text-some : (addresses : List Ipv4Address) (d : Ipv4Address) → 1 ≤ length addresses
    → addresses_text addresses ≡ address_text (get_or addresses 0 d)
    ++ flat_map with_comma (take (length addresses - 1) (drop 1 addresses))
addresses_text-some [] d some = absurd (omega (arith, some))
addresses_text-some (first ∷ rest) d some =
    let all : take (length (first ∷ rest) - 1) rest ≡ rest = take_all (length (first ∷ rest) - 1) rest (omega arith) in
    rw all refl

-- a hardware address that may be missing
pub identifier-text : (address : Option EthernetAddress)
    → text_or_none hardware_text (option_map ethernet_of address)
    ≡ text_or_none (λ a. hardware_text (ethernet_of a)) address
identifier-text None = refl
identifier-text (Some a) = refl
