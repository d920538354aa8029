-- What a host keeps of the advertisements of routers (RFC 4861 section 6.3.4, RFC 4191 section 3.1, RFC 8106 section
-- 5.1), and which neighbor packets go to.
use Rattle.std.specs.Prelude.{◌≡◌, ◌⊎◌, ℕ, ◌+◌, ◌*◌, ◌==◌, Bool, true, if◌then◌else◌, IsTrue, List, [], ◌∷◌}
use Rattle.std.specs.Prelude.{Ok, Err, Option, None, Some, replicate, slice_index}
use Rattle.std.specs.List.{filter_map, list_any}
use Rattle.control_wire.specs.Bytes.{over}
use Rattle.control_wire.specs.Ipv6Address.{octets_of, IsLinkLocal, IsMulticast}
use Rattle.control_wire.specs.Ipv6AddressType.{Ipv6Address}
use Rattle.neighbor_wire.specs.Option.{value_of, IsOption, Refuses}
use Rattle.neighbor_wire.specs.Options.{Answer, Tile}
use Rattle.neighbor_wire.specs.Preference.{preference_in}
use Rattle.neighbor_wire.specs.Servers.{AreServers, octets_in}
use Rattle.neighbor_wire.specs.declared.option.NeighborOption.{NeighborOption}
use Rattle.neighbor_wire.specs.declared.preference.Preference.{Preference}
use Rattle.neighbor_wire.specs.declared.prefix.Prefix.{Prefix}
use Rattle.neighbor_wire.specs.declared.route.Route.{Route}
use Rattle.neighbor_wire.specs.declared.refusal.Refusal.{Refusal}
use Rattle.examples.specs.Router.{TellsRouter, options_in}
use Rattle.examples.specs.declared.router.RouterInformation.{RouterInformation}
use Rattle.examples.specs.TimedList.{renewed, without}
use Rattle.examples.specs.Ranked.{best_of}
use Rattle.examples.specs.RouterEntries.{is_within, lifetime_of, prefix_after, route_after, route_rank, router_after}
use Rattle.examples.specs.RouterEntries.{router_rank, same_address, same_prefix, same_route, server_after}
use Rattle.examples.specs.declared.router_list.RouterList.{RouterList}
use Rattle.examples.specs.declared.router_list.entries.DefaultRouter.{DefaultRouter}
use Rattle.examples.specs.declared.router_list.entries.DnsServer.{DnsServer}
use Rattle.examples.specs.declared.router_list.entries.OnLinkPrefix.{OnLinkPrefix}
use Rattle.examples.specs.declared.router_list.entries.PrefixKey.{PrefixKey}
use Rattle.examples.specs.declared.router_list.entries.RouteEntry.{RouteEntry}
use Rattle.examples.specs.declared.router_list.entries.RouteKey.{RouteKey}
use Rattle.examples.specs.declared.router_list.TheConstants.{MOST_ROUTERS, MOST_ROUTES, MOST_PREFIXES, MOST_SERVERS}

-- ---- the lists

pub record Lists : Type 0 where
  pub routers : List DefaultRouter
  pub routes : List RouteEntry
  pub prefixes : List OnLinkPrefix
  pub servers : List DnsServer

abbrev pub lists_of : RouterList → Lists
lists_of l = record {
  routers = l.routers.items;
  routes = l.routes.items;
  prefixes = l.prefixes.items;
  servers = l.servers.items;
}

abbrev pub no_lists : Lists
no_lists = record { routers = []; routes = []; prefixes = []; servers = [] }

-- what is left of them when some seconds have passed
abbrev pub later : ℕ → Lists → Lists
later passed lists = record {
  routers = filter_map (router_after passed) lists.routers;
  routes = filter_map (route_after passed) lists.routes;
  prefixes = filter_map (prefix_after passed) lists.prefixes;
  servers = filter_map (server_after passed) lists.servers;
}

-- What is told for a time takes the place of what was told before; what is told for no time is removed.
abbrev pub told : {T : Type 0} → ℕ → (T → Bool) → ℕ → T → List T → List T
told most test lifetime entry entries =
    if lifetime == 0 then without test entries else renewed most test entry entries

-- ---- routers

-- the seconds for which the sender of an advertisement is a default router: its seventh and eighth octet (RFC 4861
-- section 4.2)
abbrev pub lifetime_in : List ℕ → ℕ
lifetime_in bytes = slice_index bytes 6 * 256 + slice_index bytes 7

-- its preference, in the sixth octet; who has the reserved one is of medium preference (RFC 4191 section 2.2)
abbrev pub or_medium : Preference → Preference
or_medium Preference.Reserved = Preference.Medium
or_medium preference = preference

abbrev pub kept_preference : ℕ → Preference
kept_preference flags = or_medium (preference_in flags)

-- a default router for so many seconds
abbrev pub routers_kept : Ipv6Address → Preference → ℕ → List DefaultRouter → List DefaultRouter
routers_kept address preference lifetime routers =
    told MOST_ROUTERS (λ router. same_address address router.address) lifetime
    (record { address = address; preference = preference; lifetime = lifetime }) routers

abbrev pub routers_with : Ipv6Address → List ℕ → List DefaultRouter → List DefaultRouter
routers_with source bytes routers =
    routers_kept source (kept_preference (slice_index bytes 5)) (lifetime_in bytes) routers

abbrev pub with_router : Ipv6Address → List ℕ → Lists → Lists
with_router source bytes lists = record lists { routers = routers_with source bytes lists.routers }

-- ---- routes

-- the address that the octets of a route's prefix begin, with zeros behind them
abbrev pub IsDestination : Ipv6Address → Route → Type 0
IsDestination destination route = octets_of destination ≡ over (replicate 16 0) route.prefix.now

abbrev pub route_key : Ipv6Address → Ipv6Address → Route → RouteKey
route_key source destination route =
    record { router = source; prefix_len = route.prefix_len; prefix = destination }

abbrev pub routes_kept : Ipv6Address → Ipv6Address → Route → List RouteEntry → List RouteEntry
routes_kept source destination route routes =
    told MOST_ROUTES (same_route (route_key source destination route)) route.lifetime (record {
      router = source;
      prefix_len = route.prefix_len;
      prefix = destination;
      preference = route.preference;
      lifetime = lifetime_of route.lifetime;
    }) routes

abbrev pub with_route : Ipv6Address → Ipv6Address → Route → Lists → Lists
with_route source destination route lists =
    record lists { routes = routes_kept source destination route lists.routes }

-- What an option changes that tells a route through its sender: one to all addresses, whether this is a default router
-- (RFC 4191 section 3.1); any other, the routes. One of the reserved preference is ignored (section 2.3).
pub record LearnsRoute (source : Ipv6Address) (route : Route) (old new : Lists) : Type 0 where
  pub reserved : route.preference ≡ Preference.Reserved → new ≡ old
  pub default : (route.preference ≡ Preference.Reserved → ⊥) → route.prefix_len ≡ 0
      → new ≡ record old { routers = routers_kept source route.preference route.lifetime old.routers }
  pub specific : (route.preference ≡ Preference.Reserved → ⊥) → (route.prefix_len ≡ 0 → ⊥)
      → (destination : Ipv6Address) × IsDestination destination route
      × (new ≡ with_route source destination route old)

-- ---- prefixes

-- the prefixes that hosts keep: those on the link, except for that of all links (RFC 4861 section 6.3.4)
abbrev pub IsKeptPrefix : Prefix → Type 0
IsKeptPrefix p = IsTrue p.on_link × (IsLinkLocal p.prefix → ⊥)

abbrev pub key_of : Prefix → PrefixKey
key_of p = record { prefix_len = p.prefix_len; prefix = p.prefix }

abbrev pub entry_of : Prefix → OnLinkPrefix
entry_of p = record {
  prefix_len = p.prefix_len;
  prefix = p.prefix;
  autonomous = p.autonomous;
  valid = lifetime_of p.valid_lifetime;
  preferred = lifetime_of p.preferred_lifetime;
}

pub record LearnsPrefix (p : Prefix) (old new : List OnLinkPrefix) : Type 0 where
  pub kept : IsKeptPrefix p → new ≡ told MOST_PREFIXES (same_prefix (key_of p)) p.valid_lifetime (entry_of p) old
  pub ignored : (IsKeptPrefix p → ⊥) → new ≡ old

-- ---- recursive DNS servers

abbrev pub servers_with : ℕ → Ipv6Address → List DnsServer → List DnsServer
servers_with lifetime address servers =
    told MOST_SERVERS (λ server. same_address address server.address) lifetime
    (record { address = address; lifetime = lifetime_of lifetime }) servers

-- each of some servers in turn, by their octets
pub data LearnsEach (lifetime : ℕ) : List (List ℕ) → List DnsServer → List DnsServer → Type 0 where
  none : {servers : List DnsServer} → LearnsEach lifetime [] servers servers
  next : {old new : List DnsServer} {rest : List (List ℕ)} (address : Ipv6Address)
      → LearnsEach lifetime rest (servers_with lifetime address old) new
      → LearnsEach lifetime (octets_of address ∷ rest) old new

abbrev pub LearnsServers : ℕ → List ℕ → List DnsServer → List DnsServer → Type 0
LearnsServers lifetime bytes old new =
    (addresses : List (List ℕ)) × AreServers bytes addresses × LearnsEach lifetime addresses old new

-- ---- options

-- what an option of this router changes: of routes, of prefixes, of servers, and others nothing
abbrev pub Learns : Ipv6Address → NeighborOption → Lists → Lists → Type 0
Learns source (NeighborOption.Route route) old new = LearnsRoute source route old new
Learns source (NeighborOption.Prefix p) old new =
    (new.routers ≡ old.routers) × (new.routes ≡ old.routes) × LearnsPrefix p old.prefixes new.prefixes
    × (new.servers ≡ old.servers)
Learns source (NeighborOption.DnsServers lifetime addresses) old new =
    (new.routers ≡ old.routers) × (new.routes ≡ old.routes) × (new.prefixes ≡ old.prefixes)
    × LearnsServers lifetime (octets_in addresses) old.servers new.servers
Learns source option old new = new ≡ old

-- What the options of an advertisement change, one after another, of which the bytes are given, or a reason why none
-- follows. A bad option changes nothing.
pub data LearnsAll (source : Ipv6Address) : List Answer → Lists → Lists → Type 0 where
  ends : {lists : Lists} → LearnsAll source [] lists lists
  option : {old between new : Lists} {answers : List Answer} (block : List ℕ) (told : NeighborOption)
      → IsOption block (value_of told) → Learns source told old between → LearnsAll source answers between new
      → LearnsAll source (Ok block ∷ answers) old new
  refused : {old new : Lists} {answers : List Answer} (block : List ℕ) (why : Refusal) → Refuses block why
      → LearnsAll source answers old new → LearnsAll source (Ok block ∷ answers) old new
  cut : {old new : Lists} {answers : List Answer} (why : Refusal) → LearnsAll source answers old new
      → LearnsAll source (Err why ∷ answers) old new

-- ---- advertisements

-- the octets are a valid advertisement of a router
abbrev pub IsAdvertisement : Ipv6Address → Ipv6Address → ℕ → List ℕ → Type 0
IsAdvertisement source destination hops bytes =
    (router : RouterInformation) × TellsRouter source destination hops bytes router

-- what an advertisement changes: of the router that sent it, and then by its options
abbrev pub LearnsAdvertisement : Ipv6Address → List ℕ → Lists → Lists → Type 0
LearnsAdvertisement source bytes old new =
    (answers : List Answer) × Tile (options_in bytes) answers
    × LearnsAll source answers (with_router source bytes old) new

-- a router that is one no longer
abbrev pub without_router : Ipv6Address → Lists → Lists
without_router address lists = record lists {
  routers = without (λ router. same_address address router.address) lists.routers;
}

-- ---- the next hop (RFC 4861 section 5.2, RFC 4191 section 3.2)

abbrev pub is_on_link : Ipv6Address → List OnLinkPrefix → Bool
is_on_link address prefixes = list_any (λ entry. is_within entry.prefix_len entry.prefix address) prefixes

-- an address of many receivers, of the link, or with a prefix of the link
abbrev pub IsOnLink : Ipv6Address → Lists → Type 0
IsOnLink address lists =
    IsMulticast address ⊎ IsLinkLocal address ⊎ (is_on_link address lists.prefixes ≡ true)

-- the router of a route, or else a default router
abbrev pub router_of : Option RouteEntry → Option DefaultRouter → Option Ipv6Address
router_of (Some route) router = Some route.router
router_of None (Some router) = Some router.address
router_of None None = None

-- the router to a destination that is not on the link: that of the best route, or else the best default router
abbrev pub router_for : Ipv6Address → Lists → Option Ipv6Address
router_for destination lists =
    router_of (best_of (route_rank destination) lists.routes) (best_of router_rank lists.routers)
