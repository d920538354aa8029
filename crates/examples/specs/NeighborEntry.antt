-- An entry of the cache of neighbors (RFC 4861 section 5.1), and what messages and time change of it.
use Rattle.std.specs.Prelude.{ℕ, ◌-◌, ◌==◌, ◌&&◌, not, nat_eq, Bool, false, if◌then◌else◌, Option, None, Some}
use Rattle.std.specs.Int.RustNames.{bit_and}
use Rattle.std.specs.Cmp.Lexicographic.{pointwise}
use Rattle.control_wire.specs.HardwareAddress.{raw_bytes}
use Rattle.control_wire.specs.NdiscNeighborFlagsType.{NeighborFlags}
use Rattle.control_wire.specs.NdiscTables.{neighbor_bits}
use Rattle.control_wire.specs.RawHardwareAddressType.{RawHardwareAddress}
use Rattle.control_wire.specs.Ipv6AddressType.{Ipv6Address}
use Rattle.examples.specs.declared.neighbor.NeighborInformation.{NeighborInformation}
use Rattle.examples.specs.declared.neighbor_cache.entry.CacheEntry.{CacheEntry}
use Rattle.examples.specs.declared.neighbor_cache.entry.State.{State}
use Rattle.examples.specs.declared.neighbor_cache.entry.State.TheVariants as state
use Rattle.examples.specs.declared.neighbor_cache.entry.Told.{Told}

-- ---- states

abbrev pub at_ease : CacheEntry → CacheEntry
at_ease entry = record entry { state = state.Stale; left = 0; solicitations = 0 }

abbrev pub confirmed : ℕ → CacheEntry → CacheEntry
confirmed reachable entry = record entry { state = state.Reachable; left = reachable; solicitations = 0 }

-- What an entry is when its time is over: one that is reachable is stale then, one that was sent something is asked,
-- and one that is asked is dropped where it was asked often enough (section 7.3.3).
abbrev pub entry_over : State → CacheEntry → Option CacheEntry
entry_over state.Reachable entry = Some (record entry { state = state.Stale })
entry_over state.Delay entry = Some (record entry { state = state.Probe; solicitations = 3 })
entry_over state.Stale entry = Some entry
entry_over state.Incomplete entry = if entry.solicitations == 0 then None else Some entry
entry_over state.Probe entry = if entry.solicitations == 0 then None else Some entry

abbrev pub entry_after : ℕ → CacheEntry → Option CacheEntry
entry_after passed entry =
    let later = record entry { left = entry.left - passed } in
    if later.left == 0 then entry_over entry.state later else Some later

-- ---- link-layer addresses

abbrev pub same_link : Option RawHardwareAddress → RawHardwareAddress → Bool
same_link None lladdr = false
same_link (Some known) lladdr = pointwise nat_eq (raw_bytes known) (raw_bytes lladdr)

-- ---- solicitations

abbrev pub unknown : Ipv6Address → CacheEntry
unknown address = record {
  address = address;
  lladdr = None;
  is_router = false;
  state = state.Stale;
  left = 0;
  solicitations = 0;
}

-- a neighbor that is asked for the first time (section 7.2.2)
abbrev pub asked_for : Ipv6Address → CacheEntry
asked_for address = record (unknown address) { state = state.Incomplete; solicitations = 3 }

-- The first thing that is sent to a neighbor whose entry is stale delays it: it is asked five seconds later, where it
-- was not heard by then (section 7.3.3).
abbrev pub used_in : State → CacheEntry → CacheEntry
used_in state.Stale entry = record entry { state = state.Delay; left = 5000 }
used_in other entry = entry

abbrev pub used : CacheEntry → CacheEntry
used entry = used_in entry.state entry

-- a neighbor is to be asked where it is asked and its time is over
abbrev pub is_due : CacheEntry → Bool
is_due entry = (entry.left == 0) && not (entry.solicitations == 0)

-- one that was asked once more
abbrev pub asked : ℕ → CacheEntry → CacheEntry
asked retrans entry = record entry { left = retrans; solicitations = entry.solicitations - 1 }

abbrev pub with_link : RawHardwareAddress → CacheEntry → CacheEntry
with_link lladdr entry =
    if same_link entry.lladdr lladdr then entry else at_ease (record entry { lladdr = Some lladdr })

-- A neighbor that solicits: a new entry is stale, and no router's; one whose link-layer address is another gets this
-- one, and is stale; any other stays as it is (section 7.2.3).
abbrev pub solicited : Ipv6Address → RawHardwareAddress → Option CacheEntry → CacheEntry
solicited address lladdr None = with_link lladdr (unknown address)
solicited address lladdr (Some entry) = with_link lladdr entry

-- ---- advertisements (section 7.2.5)

-- what an advertisement tells: the flags ROUTER, SOLICITED and OVERRIDE, and a link-layer address (section 4.4)
abbrev pub has_flags : NeighborFlags → ℕ → Bool
has_flags flags wanted = bit_and (neighbor_bits flags) wanted == wanted

abbrev pub told_of : NeighborInformation → Told
told_of neighbor = record {
  lladdr = neighbor.lladdr;
  is_router = has_flags neighbor.flags 0x80;
  is_solicited = has_flags neighbor.flags 0x40;
  overrides = has_flags neighbor.flags 0x20;
}

-- a link-layer address is told, and takes the place of what was known
abbrev pub moved : Told → ℕ → RawHardwareAddress → CacheEntry → CacheEntry
moved told reachable lladdr entry =
    let new = record entry { lladdr = Some lladdr; is_router = told.is_router } in
    if told.is_solicited then confirmed reachable new else at_ease new

-- the one that was known is told, or none: the state stays, but where the neighbor was asked
abbrev pub heard : Told → ℕ → CacheEntry → CacheEntry
heard told reachable entry =
    let new = record entry { is_router = told.is_router } in
    if told.is_solicited then confirmed reachable new else new

-- another is told, which does not take the place of that which was known: nothing else changes
abbrev pub doubted_in : State → CacheEntry → CacheEntry
doubted_in state.Reachable entry = at_ease entry
doubted_in other entry = entry

abbrev pub doubted : CacheEntry → CacheEntry
doubted entry = doubted_in entry.state entry

abbrev pub advertised_link : Told → ℕ → CacheEntry → RawHardwareAddress → CacheEntry
advertised_link told reachable entry lladdr =
    if same_link entry.lladdr lladdr then heard told reachable entry
    else if told.overrides then moved told reachable lladdr entry
    else doubted entry

-- A neighbor that advertises, by its state and by the link-layer address that it tells.
abbrev pub advertised_in : State → Option RawHardwareAddress → Told → ℕ → CacheEntry → CacheEntry
advertised_in state.Incomplete None told reachable entry = entry
advertised_in state.Incomplete (Some lladdr) told reachable entry = moved told reachable lladdr entry
advertised_in other None told reachable entry = heard told reachable entry
advertised_in other (Some lladdr) told reachable entry = advertised_link told reachable entry lladdr

abbrev pub advertised : Told → ℕ → CacheEntry → CacheEntry
advertised told reachable entry = advertised_in entry.state told.lladdr told reachable entry
