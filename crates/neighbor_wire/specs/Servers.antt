-- The addresses of recursive DNS servers in turn (RFC 8106 section 5.1).
use Rattle.std.specs.Prelude.{◌≡◌, ℕ, zero, suc, ◌*◌, ◌/◌, List, [], ◌∷◌, length, take, drop, Option, None, Some}
use Rattle.std.specs.List.{AllByRecursion, concat}
use Rattle.wirebase.specs.Ipv6Address.{octets_of}
use Rattle.wirebase.specs.declared.ipv6.address.Ipv6Address.{Ipv6Address}
use Rattle.neighbor_wire.specs.declared.servers.Servers.{Servers}

abbrev pub octets_in : Servers → List ℕ
octets_in servers = servers.octets.now

-- The servers in some bytes: addresses of 16 bytes, as many as are whole, one after another.
pub record AreServers (bytes : List ℕ) (servers : List (List ℕ)) : Type 0 where
  pub number : length servers ≡ length bytes / 16
  pub each : AllByRecursion (λ server. length server ≡ 16) servers
  pub whole : concat servers ≡ take (16 * length servers) bytes

-- the same addresses as they are computed: a given number of them, and those that the bytes hold whole
unfoldable pub servers_ahead : ℕ → List ℕ → List (List ℕ)
servers_ahead zero bytes = []
servers_ahead (suc n) bytes = take 16 bytes ∷ servers_ahead n (drop 16 bytes)

abbrev pub servers_in : List ℕ → List (List ℕ)
servers_in bytes = servers_ahead (length bytes / 16) bytes

-- a call of `next` gives the first address and takes it off; where none is left it gives None, and none is left
-- afterwards
abbrev pub GivesServer : List (List ℕ) → Option Ipv6Address → List (List ℕ) → Type 0
GivesServer old None new = (old ≡ []) × (new ≡ [])
GivesServer old (Some address) new = old ≡ octets_of address ∷ new
