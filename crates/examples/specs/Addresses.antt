-- The addresses that a host has on a link (RFC 4862).
use Rattle.std.specs.Prelude.{◌≡◌, ℕ, ◌+◌, ◌-◌, ◌≤◌, ◌==◌, ◌&&◌, nat_lt, Bool, true, false, if◌then◌else◌}
use Rattle.std.specs.Prelude.{IsTrue, List, ◌++◌, take, drop, slice_index, Option, None, Some}
use Rattle.std.specs.List.{find}
use Rattle.std.specs.Option.{option_map}
use Rattle.control_wire.specs.Ipv6Address.{octets_of, IsLinkLocal}
use Rattle.control_wire.specs.Ipv6AddressType.{Ipv6Address}
use Rattle.neighbor_wire.specs.declared.prefix.Prefix.{Prefix}
use Rattle.examples.specs.Ranked.{best_of}
use Rattle.examples.specs.RouterEntries.{is_over, lifetime_after, lifetime_of, same_address}
use Rattle.examples.specs.TimedList.{renewed}
use Rattle.examples.specs.declared.addresses.Addresses.{Addresses}
use Rattle.examples.specs.declared.addresses.OwnAddress.{OwnAddress}
use Rattle.examples.specs.declared.addresses.State.{State}
use Rattle.examples.specs.declared.addresses.State.TheVariants as state
use Rattle.examples.specs.declared.addresses.TheConstants.{MOST_ADDRESSES}
use Rattle.examples.specs.declared.router_list.entries.Lifetime.{Lifetime}
use Rattle.examples.specs.declared.router_list.entries.Lifetime.TheVariants.{Seconds, Forever}

abbrev pub entries_of : Addresses → List OwnAddress
entries_of addresses = addresses.entries.items

abbrev pub is_at : Ipv6Address → OwnAddress → Bool
is_at address entry = same_address address entry.address

-- the entry of an address
abbrev pub found : Ipv6Address → List OwnAddress → Option OwnAddress
found address entries = find (is_at address) entries

-- an entry of an address in the place of the one that it had
abbrev pub with_entry : Ipv6Address → OwnAddress → List OwnAddress → List OwnAddress
with_entry address entry entries = renewed MOST_ADDRESSES (is_at address) entry entries

-- ---- times

-- An address is dropped when it is no longer valid. One that is no longer preferred is deprecated (section 5.5.4).
abbrev pub own_after : ℕ → OwnAddress → Option OwnAddress
own_after passed entry =
    let valid = lifetime_after passed entry.valid in
    if is_over valid then None
    else Some (record entry { valid = valid; preferred = lifetime_after passed entry.preferred })

abbrev pub waited : ℕ → OwnAddress → OwnAddress
waited passed entry = record entry { left = entry.left - passed }

-- ---- new addresses

abbrev pub new_entry : Ipv6Address → Lifetime → Lifetime → OwnAddress
new_entry address valid preferred =
    record { address = address; state = state.New; left = 0; valid = valid; preferred = preferred }

abbrev pub added_of : Ipv6Address → Lifetime → Lifetime → List OwnAddress → Option OwnAddress → List OwnAddress
added_of address valid preferred entries None = with_entry address (new_entry address valid preferred) entries
added_of address valid preferred entries (Some entry) = entries

abbrev pub added : Ipv6Address → Lifetime → Lifetime → List OwnAddress → List OwnAddress
added address valid preferred entries = added_of address valid preferred entries (found address entries)

-- ---- detection (section 5.4)

-- whether another has an address is not known yet
abbrev pub is_open : State → Bool
is_open state.New = true
is_open state.Tentative = true
is_open state.Assigned = false
is_open state.Duplicate = false

abbrev pub is_due : OwnAddress → Bool
is_due entry = (entry.left == 0) && is_open entry.state

-- a new address is asked for and waited for, and one that was waited for is the host's
abbrev pub stepped_in : State → OwnAddress → OwnAddress
stepped_in state.New entry = record entry { state = state.Tentative; left = 1000 }
stepped_in state.Tentative entry = record entry { state = state.Assigned }
stepped_in state.Assigned entry = entry
stepped_in state.Duplicate entry = entry

abbrev pub stepped : OwnAddress → OwnAddress
stepped entry = stepped_in entry.state entry

abbrev pub with_stepped_of : List OwnAddress → Option OwnAddress → List OwnAddress
with_stepped_of entries None = entries
with_stepped_of entries (Some entry) = with_entry (stepped entry).address (stepped entry) entries

abbrev pub with_stepped : List OwnAddress → List OwnAddress
with_stepped entries = with_stepped_of entries (find is_due entries)

-- another has an address (sections 5.4.3 and 5.4.4)
abbrev pub is_refused_of : Option OwnAddress → Bool
is_refused_of None = false
is_refused_of (Some entry) = is_open entry.state

abbrev pub is_refused : Ipv6Address → List OwnAddress → Bool
is_refused address entries = is_refused_of (found address entries)

abbrev pub with_refused_of : Ipv6Address → List OwnAddress → Option OwnAddress → List OwnAddress
with_refused_of address entries None = entries
with_refused_of address entries (Some entry) =
    if is_open entry.state then with_entry address (record entry { state = state.Duplicate }) entries else entries

abbrev pub with_refused : Ipv6Address → List OwnAddress → List OwnAddress
with_refused address entries = with_refused_of address entries (found address entries)

-- ---- addresses that are formed of prefixes (section 5.5.3)

-- A host forms addresses of a prefix that is for it, of 64 bits, not that of all links, and valid for at least as long
-- as it is preferred.
pub record Forms (p : Prefix) : Type 0 where
  pub autonomous : IsTrue p.autonomous
  pub other : IsLinkLocal p.prefix → ⊥
  pub len : p.prefix_len ≡ 64
  pub lifetimes : p.preferred_lifetime ≤ p.valid_lifetime

-- such an address has the prefix and an interface identifier
abbrev pub IsFormed : Ipv6Address → Ipv6Address → Ipv6Address → Type 0
IsFormed prefix own address = octets_of address ≡ take 8 (octets_of prefix) ++ drop 8 (octets_of own)

-- A valid lifetime of more than two hours is taken, and one that is longer than what is left; any other leaves two
-- hours, or what is left of fewer.
abbrev pub prolonged_lifetime : ℕ → Lifetime → Lifetime
prolonged_lifetime told (Seconds left) =
    if nat_lt 7200 told then lifetime_of told
    else if nat_lt left told then lifetime_of told
    else if nat_lt 7200 left then Seconds 7200
    else Seconds left
prolonged_lifetime told Forever = if nat_lt 7200 told then lifetime_of told else Seconds 7200

abbrev pub prolonged : Prefix → OwnAddress → OwnAddress
prolonged p entry = record entry {
  valid = prolonged_lifetime p.valid_lifetime entry.valid;
  preferred = lifetime_of p.preferred_lifetime;
}

-- an address whose prefix is not valid is not taken
abbrev pub with_formed_of : Prefix → Ipv6Address → List OwnAddress → Option OwnAddress → List OwnAddress
with_formed_of p address entries None =
    if p.valid_lifetime == 0 then entries
    else added address (lifetime_of p.valid_lifetime) (lifetime_of p.preferred_lifetime) entries
with_formed_of p address entries (Some entry) = with_entry address (prolonged p entry) entries

abbrev pub with_formed : Prefix → Ipv6Address → List OwnAddress → List OwnAddress
with_formed p address entries = with_formed_of p address entries (found address entries)

pub record LearnsAutonomous (p : Prefix) (own : Ipv6Address) (old new : List OwnAddress) : Type 0 where
  pub formed : Forms p → (address : Ipv6Address) × IsFormed p.prefix own address × (new ≡ with_formed p address old)
  pub ignored : (Forms p → ⊥) → new ≡ old

-- ---- the source of packets (RFC 6724 section 5, rules 2 and 3)

abbrev pub is_assigned : State → Bool
is_assigned state.Assigned = true
is_assigned state.New = false
is_assigned state.Tentative = false
is_assigned state.Duplicate = false

-- an address for use on the link alone (RFC 4291 section 2.5.6)
abbrev pub is_of_link : Ipv6Address → Bool
is_of_link address = (slice_index (octets_of address) 0 == 0xfe) && (slice_index (octets_of address) 1 == 0x80)

abbrev pub same_scope : Ipv6Address → Ipv6Address → Bool
same_scope a b = if is_of_link a then is_of_link b else if is_of_link b then false else true

-- one of the same scope is better, and of several one that is still preferred
abbrev pub source_rank : Ipv6Address → OwnAddress → ℕ
source_rank destination entry =
    if is_assigned entry.state
    then 1 + (if same_scope entry.address destination then 2 else 0) + (if is_over entry.preferred then 0 else 1)
    else 0

abbrev pub source_of : Ipv6Address → List OwnAddress → Option Ipv6Address
source_of destination entries =
    option_map (λ entry. entry.address) (best_of (source_rank destination) entries)
