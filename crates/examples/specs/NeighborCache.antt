-- A cache of neighbors (RFC 4861 sections 5.1, 7.2 and 7.3).
use Rattle.std.specs.Prelude.{◌≡◌, ◌&&◌, not, ℕ, Bool, false, if◌then◌else◌, nat_eq, List, Option, None, Some}
use Rattle.std.specs.Prelude.{replicate}
use Rattle.std.specs.Cmp.Lexicographic.{pointwise}
use Rattle.std.specs.List.{find}
use Rattle.control_wire.specs.Ipv6Address.{octets_of}
use Rattle.control_wire.specs.RawHardwareAddressType.{RawHardwareAddress}
use Rattle.control_wire.specs.Ipv6AddressType.{Ipv6Address}
use Rattle.examples.specs.RouterEntries.{same_address}
use Rattle.examples.specs.TimedList.{IsKept, renewed}
use Rattle.examples.specs.NeighborEntry.{advertised, asked, asked_for, is_due, solicited, used}
use Rattle.examples.specs.declared.neighbor_cache.NeighborCache.{NeighborCache}
use Rattle.examples.specs.declared.neighbor_cache.TheConstants.{MOST_NEIGHBORS}
use Rattle.examples.specs.declared.neighbor_cache.entry.CacheEntry.{CacheEntry}
use Rattle.examples.specs.declared.neighbor_cache.entry.Told.{Told}

abbrev pub entries_of : NeighborCache → List CacheEntry
entries_of cache = cache.entries.items

abbrev pub is_at : Ipv6Address → CacheEntry → Bool
is_at address entry = same_address address entry.address

-- the entry of an address
abbrev pub found : Ipv6Address → List CacheEntry → Option CacheEntry
found address entries = find (is_at address) entries

-- an entry of an address in the place of the one that it had
abbrev pub with_entry : Ipv6Address → CacheEntry → List CacheEntry → List CacheEntry
with_entry address entry entries = renewed MOST_NEIGHBORS (is_at address) entry entries

-- ---- solicitations (section 7.2.3)

abbrev pub is_unspecified : Ipv6Address → Bool
is_unspecified address = pointwise nat_eq (octets_of address) (replicate 16 0)

abbrev pub IsLearned : Ipv6Address → Option RawHardwareAddress → List CacheEntry → Type 0
IsLearned source None entries = ⊥
IsLearned source (Some lladdr) entries =
    (octets_of source ≡ replicate 16 0 → ⊥) × IsKept MOST_NEIGHBORS (is_at source) entries

abbrev pub with_solicited : Ipv6Address → Option RawHardwareAddress → List CacheEntry → List CacheEntry
with_solicited source None entries = entries
with_solicited source (Some lladdr) entries =
    if is_unspecified source then entries
    else with_entry source (solicited source lladdr (found source entries)) entries

-- ---- advertisements (section 7.2.5)

-- nothing is learned of a neighbor that has no entry
abbrev pub with_advertised_of : Ipv6Address → Told → ℕ → List CacheEntry → Option CacheEntry → List CacheEntry
with_advertised_of address told reachable entries None = entries
with_advertised_of address told reachable entries (Some entry) =
    with_entry address (advertised told reachable entry) entries

abbrev pub with_advertised : Ipv6Address → Told → ℕ → List CacheEntry → List CacheEntry
with_advertised address told reachable entries =
    with_advertised_of address told reachable entries (found address entries)

-- a neighbor that was a router is none any more
abbrev pub stops_routing_of : Told → ℕ → Option CacheEntry → Bool
stops_routing_of told reachable None = false
stops_routing_of told reachable (Some entry) = entry.is_router && not (advertised told reachable entry).is_router

abbrev pub stops_routing : Ipv6Address → Told → ℕ → List CacheEntry → Bool
stops_routing address told reachable entries = stops_routing_of told reachable (found address entries)

-- ---- neighbors that are asked (sections 7.2.2 and 7.3.3)

abbrev pub with_begun_of : Ipv6Address → List CacheEntry → Option CacheEntry → List CacheEntry
with_begun_of address entries None = with_entry address (asked_for address) entries
with_begun_of address entries (Some entry) = entries

abbrev pub with_begun : Ipv6Address → List CacheEntry → List CacheEntry
with_begun address entries = with_begun_of address entries (found address entries)

abbrev pub with_used_of : Ipv6Address → List CacheEntry → Option CacheEntry → List CacheEntry
with_used_of address entries None = entries
with_used_of address entries (Some entry) = with_entry address (used entry) entries

abbrev pub with_used : Ipv6Address → List CacheEntry → List CacheEntry
with_used address entries = with_used_of address entries (found address entries)

-- the first neighbor that is to be asked was asked
abbrev pub with_asked_of : ℕ → List CacheEntry → Option CacheEntry → List CacheEntry
with_asked_of retrans entries None = entries
with_asked_of retrans entries (Some entry) = with_entry entry.address (asked retrans entry) entries

abbrev pub with_asked : ℕ → List CacheEntry → List CacheEntry
with_asked retrans entries = with_asked_of retrans entries (find is_due entries)
