-- IPv6 addresses (RFC 4291).
use Rattle.std.specs.Prelude.{◌≡◌, ℕ, List, [], ◌∷◌, take, slice_index}
use Rattle.std.specs.Net.Addr.{segments_of}
use Rattle.std.specs.Net.Text.{hex_groups_text}
use Rattle.wirebase.specs.declared.ipv6.address.Ipv6Address.{Ipv6Address}

-- the sixteen octets, the highest first
abbrev pub octets_of : Ipv6Address → List ℕ
octets_of address = address.octets

-- an address of many receivers: its first octet is all ones (RFC 4291 section 2.7)
abbrev pub IsMulticast : Ipv6Address → Type 0
IsMulticast address = slice_index (octets_of address) 0 ≡ 0xff

-- an address on one link alone: its first 64 bits are 1111111010 and 54 zeros (RFC 4291 section 2.5.6)
abbrev pub IsLinkLocal : Ipv6Address → Type 0
IsLinkLocal address = take 8 (octets_of address) ≡ 0xfe ∷ 0x80 ∷ 0 ∷ 0 ∷ 0 ∷ 0 ∷ 0 ∷ 0 ∷ []

-- eight groups in hexadecimal without leading zeros and with colons between them, and in place of the first longest run
-- of two zero groups or more `::` (RFC 5952 section 4)
abbrev pub address_text : Ipv6Address → List ℕ
address_text address = hex_groups_text (segments_of (octets_of address))
