-- The headers that extend IPv6 (RFC 8200 section 4).
use Rattle.std.specs.Prelude.{◌≡◌, ◌≢◌, ◌+◌, ◌-◌, ◌*◌, ◌<◌, ◌≤◌, ◌⊎◌, ◌==◌, ◌||◌, ◌/◌, ◌%◌, List, None, Option, Some, ℕ}
use Rattle.std.specs.Prelude.{drop, if◌then◌else◌, length, nat_le, slice_index}
use Rattle.frame_wire.specs.Words.{IpProtocol, field, number_of, part}
use Rattle.wirebase.specs.Ip.{protocol_of}

-- those that are passed: hop-by-hop and destination options, and routing headers
abbrev pub IsExtension : IpProtocol → Type 0
IsExtension p = (p ≡ IpProtocol.HopByHop) ⊎ (p ≡ IpProtocol.Ipv6Route) ⊎ (p ≡ IpProtocol.Ipv6Opts)

-- the end of a header: its length counts eight bytes each, without the first eight
abbrev pub extension_end : List ℕ → ℕ
extension_end bytes = 8 * slice_index bytes 1 + 8

-- the bytes begin with a whole header
pub record HasExtension (bytes : List ℕ) : Type 0 where
  pub least : 8 ≤ length bytes
  pub whole : extension_end bytes ≤ length bytes

-- The bytes begin with the header of a fragment that is a whole datagram by itself, an atomic one (RFC 6946 section 2):
-- at offset 0, and with no more fragments. The offset has the upper 13 bits of two bytes, and the lowest bit is set
-- where more fragments follow (RFC 8200 section 4.5).
pub record HasAtomic (bytes : List ℕ) : Type 0 where
  pub whole : 8 ≤ length bytes
  pub offset : number_of (field 2 4) bytes / 8 ≡ 0
  pub last : number_of (field 2 4) bytes % 2 ≡ 0

-- the end of a header
pub data EndsAt (p : IpProtocol) (bytes : List ℕ) (end : ℕ) : Type 0 where
  extension : IsExtension p → HasExtension bytes → end ≡ extension_end bytes → EndsAt p bytes end
  atomic : p ≡ IpProtocol.Ipv6Frag → HasAtomic bytes → end ≡ 8 → EndsAt p bytes end

-- the options of a hop-by-hop header, after its first two bytes (RFC 8200 section 4.3); other headers have none
abbrev pub options_of : IpProtocol → List ℕ → Option (List ℕ)
options_of IpProtocol.HopByHop header = Some (part header 2 (extension_end header))
options_of _ header = None

-- Where a routing header leads that still has segments left: to the last address of types 0 and 2 (RFC 2460
-- section 4.4, RFC 6275 section 6.4), and to the first that is written of type 4 (RFC 8754 section 2). That
-- destination counts in checksums (RFC 8200 section 8.1).
abbrev pub routed : List ℕ → List ℕ → List ℕ
routed header destination =
    if (slice_index header 3 == 0) || nat_le (extension_end header) 23 then destination
    else if slice_index header 2 == 4 then part header 8 24
    else if (slice_index header 2 == 0) || (slice_index header 2 == 2)
    then part header (extension_end header - 16) (extension_end header)
    else destination

-- the destination after a header
pub data Routes (p : IpProtocol) (header destination next : List ℕ) : Type 0 where
  by_route : p ≡ IpProtocol.Ipv6Route → next ≡ routed header destination → Routes p header destination next
  by_options : p ≢ IpProtocol.Ipv6Route → next ≡ destination → Routes p header destination next

-- A protocol and the bytes after it lead past some headers to a protocol, with these bytes and this destination.
pub data Passes : IpProtocol → List ℕ → List ℕ → IpProtocol → List ℕ → List ℕ → Type 0 where
  here : {p : IpProtocol} {bytes destination : List ℕ} {q : IpProtocol} {rest final : List ℕ}
      → q ≡ p → rest ≡ bytes → final ≡ destination → Passes p bytes destination q rest final
  past : {p : IpProtocol} {bytes destination : List ℕ} {q : IpProtocol} {rest final : List ℕ} (end : ℕ)
      (next : List ℕ) → EndsAt p bytes end → Routes p bytes destination next
      → Passes (protocol_of (slice_index bytes 0)) (drop end bytes) next q rest final
      → Passes p bytes destination q rest final

-- a header that is not whole: one of those that are passed, or that of a fragment, which has eight bytes
abbrev pub IsTornHeader : IpProtocol → List ℕ → Type 0
IsTornHeader p bytes = (IsExtension p × (HasExtension bytes → ⊥)) ⊎ ((p ≡ IpProtocol.Ipv6Frag) × (length bytes < 8))

-- a protocol and the bytes after it lead to a header of a protocol that is not whole
pub record LeadsToTorn (p : IpProtocol) (bytes destination : List ℕ) (q : IpProtocol) : Type 0 where
  pub rest : List ℕ
  pub final : List ℕ
  pub passes : Passes p bytes destination q rest final
  pub torn : IsTornHeader q rest

-- a fragment header is among those that a protocol and the bytes after it lead past, or is where they lead
pub data HasFragment : IpProtocol → List ℕ → Type 0 where
  this : {p : IpProtocol} {bytes : List ℕ} → p ≡ IpProtocol.Ipv6Frag → HasFragment p bytes
  beyond : {p : IpProtocol} {bytes : List ℕ} (end : ℕ) → EndsAt p bytes end
      → HasFragment (protocol_of (slice_index bytes 0)) (drop end bytes) → HasFragment p bytes
