-- The hosts of packets: an address, or those whose first bits are those of an address.
use Rattle.std.specs.Prelude.{◌≡◌, ℕ, ◌-◌, ◌^◌, ◌/◌, ◌≤◌, ◌==◌, ◌&&◌, ◌||◌, nat_lt, Bool, true, false, List, [], ◌∷◌}
use Rattle.std.specs.Prelude.{if◌then◌else◌, Option, None, Some}
use Rattle.std.specs.Net.Addr.{ipv4_octets, ipv6_octets}
use Rattle.std.specs.Net.Grammar.{IsIpText}
use Rattle.std.specs.declared.net.ip_addr.IpAddr.{IpAddr}
use Rattle.std.specs.declared.net.ip_addr.IpAddr.TheVariants as ip
use Rattle.frame_wire.specs.declared.datagram.Addresses.{Addresses}
use Rattle.frame_wire.specs.declared.datagram.Addresses.TheVariants as between
use Rattle.wirebase.specs.Ipv4 as ipv4
use Rattle.wirebase.specs.Ipv6Address as ipv6
use Rattle.dump_captures.specs.Settings.{before, behind, number_in}
use Rattle.dump_captures.specs.declared.host.Host.{Host}
use Rattle.dump_captures.specs.declared.host.Host.TheVariants.{V4, V6}

-- ---- addresses of one prefix

-- the first bits of two addresses, this many, are the same
abbrev pub share : ℕ → List ℕ → List ℕ → Bool
share bits (x ∷ xs) (y ∷ ys) =
    if nat_lt bits 8 then x / 2 ^ (8 - bits) == y / 2 ^ (8 - bits) else (x == y) && share (bits - 8) xs ys
share bits [] ys = true
share bits xs [] = true

-- one of the two ends is the host
abbrev pub is_between : Host → Addresses → Bool
is_between (V4 address bits) (between.V4 source destination) =
    share bits (ipv4.octets_of address) (ipv4.octets_of source)
    || share bits (ipv4.octets_of address) (ipv4.octets_of destination)
is_between (V6 address bits) (between.V6 source destination) =
    share bits (ipv6.octets_of address) (ipv6.octets_of source)
    || share bits (ipv6.octets_of address) (ipv6.octets_of destination)
is_between host addresses = false

-- where a host is asked for, the addresses are known, and one of them is its
abbrev pub has_host : Option Host → Option Addresses → Bool
has_host None addresses = true
has_host (Some host) None = false
has_host (Some host) (Some addresses) = is_between host addresses

-- ---- the text

-- these are the octets of the address
abbrev pub IsAddress : IpAddr → Host → Type 0
IsAddress (ip.V4 a) (V4 address bits) = ipv4.octets_of address ≡ ipv4_octets a
IsAddress (ip.V6 a) (V6 address bits) = ipv6.octets_of address ≡ ipv6_octets a
IsAddress a host = ⊥

abbrev pub bits_of : Host → ℕ
bits_of (V4 address bits) = bits
bits_of (V6 address bits) = bits

abbrev pub all_bits : Host → ℕ
all_bits (V4 address bits) = 32
all_bits (V6 address bits) = 128

-- the bits of a prefix, or all of the address
abbrev pub HasBits : Option (List ℕ) → Host → Type 0
HasBits None host = bits_of host ≡ all_bits host
HasBits (Some digits) host = (number_in digits ≡ Some (bits_of host)) × (bits_of host ≤ all_bits host)

-- An address alone, or before a slash and the number of bits of a prefix (RFC 4291 sections 2.2 and 2.3; of IPv4
-- RFC 4632 section 3.1).
pub record IsHostText (text : List ℕ) (host : Host) : Type 0 where
  pub address : IpAddr
  pub is_text : IsIpText (before 47 text) address
  pub is_address : IsAddress address host
  pub bits : HasBits (behind 47 text) host
