-- The two addresses of a datagram, of either version.
use Rattle.std.specs.Prelude.{ℕ}
use Rattle.frame_wire.specs.Words.{Addresses, IpProtocol}
use Rattle.wirebase.specs.Ipv4.{pseudo_sum as pseudo_sum_v4}
use Rattle.wirebase.specs.Ipv6.{pseudo_sum}

-- what a checksum counts before a payload of this many bytes (RFC 768, RFC 8200 section 8.1)
abbrev pub sum_before : Addresses → IpProtocol → ℕ → ℕ
sum_before (Addresses.V4 src dst) protocol bytes = pseudo_sum_v4 src dst protocol bytes
sum_before (Addresses.V6 src dst) protocol bytes = pseudo_sum src dst protocol bytes

-- of IPv4
abbrev pub IsV4 : Addresses → Type 0
IsV4 (Addresses.V4 src dst) = Unit {0}
IsV4 (Addresses.V6 src dst) = ⊥
