-- The entries of the lists that a host keeps of routers, of routes through them, of prefixes on the link, and of
-- recursive DNS servers.
use Rattle.std.specs.Prelude.{ℕ, ◌+◌, ◌-◌, ◌*◌, ◌/◌, ◌^◌, ◌==◌, ◌&&◌, nat_eq, nat_lt, Bool, false, if◌then◌else◌}
use Rattle.std.specs.Prelude.{Option, None, Some}
use Rattle.std.specs.Cmp.Lexicographic.{pointwise}
use Rattle.std.specs.Int.{from_be_bytes, w128}
use Rattle.control_wire.specs.Ipv6Address.{octets_of}
use Rattle.control_wire.specs.Ipv6AddressType.{Ipv6Address}
use Rattle.neighbor_wire.specs.declared.preference.Preference.{Preference}
use Rattle.examples.specs.declared.router_list.entries.Lifetime.{Lifetime}
use Rattle.examples.specs.declared.router_list.entries.Lifetime.TheVariants.{Seconds, Forever}
use Rattle.examples.specs.declared.router_list.entries.DefaultRouter.{DefaultRouter}
use Rattle.examples.specs.declared.router_list.entries.OnLinkPrefix.{OnLinkPrefix}
use Rattle.examples.specs.declared.router_list.entries.PrefixKey.{PrefixKey}
use Rattle.examples.specs.declared.router_list.entries.RouteEntry.{RouteEntry}
use Rattle.examples.specs.declared.router_list.entries.RouteKey.{RouteKey}
use Rattle.examples.specs.declared.router_list.entries.DnsServer.{DnsServer}

-- ---- times

-- the time that a number of seconds says: all ones are for ever (RFC 4861 section 4.6.2, RFC 8106 section 5.1)
abbrev pub lifetime_of : ℕ → Lifetime
lifetime_of n = if n == 0xffffffff then Forever else Seconds n

-- what is left when some seconds have passed
abbrev pub lifetime_after : ℕ → Lifetime → Lifetime
lifetime_after passed (Seconds n) = Seconds (n - passed)
lifetime_after passed Forever = Forever

abbrev pub is_over : Lifetime → Bool
is_over (Seconds n) = n == 0
is_over Forever = false

-- ---- default routers

abbrev pub same_address : Ipv6Address → Ipv6Address → Bool
same_address a b = pointwise nat_eq (octets_of a) (octets_of b)

abbrev pub router_after : ℕ → DefaultRouter → Option DefaultRouter
router_after passed router =
    if nat_lt passed router.lifetime then Some (record router { lifetime = router.lifetime - passed }) else None

-- ---- prefixes on the link

-- the first bits of an address, as a number
abbrev pub network_of : ℕ → Ipv6Address → ℕ
network_of bits address = from_be_bytes w128 (octets_of address) / 2 ^ (128 - bits)

-- prefixes are the same where they have as many bits, and the same ones (RFC 4861 section 4.6.2)
abbrev pub same_prefix : PrefixKey → OnLinkPrefix → Bool
same_prefix key entry =
    (key.prefix_len == entry.prefix_len)
    && (network_of key.prefix_len key.prefix == network_of key.prefix_len entry.prefix)

-- a prefix stays on the link where its preferred lifetime is over: addresses of it are then deprecated
abbrev pub prefix_after : ℕ → OnLinkPrefix → Option OnLinkPrefix
prefix_after passed entry =
    let valid = lifetime_after passed entry.valid in
    if is_over valid then None
    else Some (record entry { valid = valid; preferred = lifetime_after passed entry.preferred })

-- an address has the first bits of a prefix
abbrev pub is_within : ℕ → Ipv6Address → Ipv6Address → Bool
is_within bits prefix address = network_of bits address == network_of bits prefix

-- ---- routes through routers

-- routes are the same where they lead through the same router to the same prefix
abbrev pub same_route : RouteKey → RouteEntry → Bool
same_route key entry =
    same_address key.router entry.router
    && (key.prefix_len == entry.prefix_len)
    && (network_of key.prefix_len key.prefix == network_of key.prefix_len entry.prefix)

abbrev pub route_after : ℕ → RouteEntry → Option RouteEntry
route_after passed route =
    let lifetime = lifetime_after passed route.lifetime in
    if is_over lifetime then None else Some (record route { lifetime = lifetime })

-- the rank of a preference (RFC 4191 section 2.1)
abbrev pub preference_rank : Preference → ℕ
preference_rank Preference.High = 3
preference_rank Preference.Medium = 2
preference_rank Preference.Reserved = 2
preference_rank Preference.Low = 1

-- The rank of a way to a destination: that of a longer prefix is higher, and of the same length that of the higher
-- preference (RFC 4191 section 3.2); 0 where it does not lead there.
abbrev pub route_rank : Ipv6Address → RouteEntry → ℕ
route_rank destination route =
    if is_within route.prefix_len route.prefix destination
    then 3 * route.prefix_len + preference_rank route.preference
    else 0

-- a default router leads everywhere
abbrev pub router_rank : DefaultRouter → ℕ
router_rank router = preference_rank router.preference

-- ---- recursive DNS servers

abbrev pub server_after : ℕ → DnsServer → Option DnsServer
server_after passed server =
    let lifetime = lifetime_after passed server.lifetime in
    if is_over lifetime then None else Some (record server { lifetime = lifetime })
