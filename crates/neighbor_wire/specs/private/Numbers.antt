-- What an option's types say of its numbers.
use Rattle.std.specs.Prelude.{◌≡◌, ◌^◌, ◌<◌, length}
use Rattle.neighbor_wire.specs.Option.{Value, prefix, mtu, route, servers, search_list}
use Rattle.neighbor_wire.specs.Option.{other}

-- Lifetimes and an MTU have 32 bits, a type has 8, and an address 16 octets.
abbrev pub HasNumbers : Value → Type 0
HasNumbers (prefix bits on_link autonomous router valid preferred octets) =
    (valid < 2 ^ 32) × (preferred < 2 ^ 32) × (length octets ≡ 16)
HasNumbers (mtu n) = n < 2 ^ 32
HasNumbers (route bits preference lifetime octets) = lifetime < 2 ^ 32
HasNumbers (servers lifetime octets) = lifetime < 2 ^ 32
HasNumbers (search_list lifetime octets) = lifetime < 2 ^ 32
HasNumbers (other t octets) = t < 256
HasNumbers v = Unit {0}
