-- Where a packet comes from or goes to: an address, and a port where there is one.
use Rattle.std.specs.Prelude.{ℕ, List, ◌++◌, Option, None, Some, codes, decimal}
use Rattle.wirebase.specs.Ipv4 as ipv4
use Rattle.wirebase.specs.Ipv6Address as ipv6
use Rattle.wirebase.specs.declared.ipv4.Ipv4Address.{Ipv4Address}
use Rattle.wirebase.specs.declared.ipv6.address.Ipv6Address.{Ipv6Address}

-- an address with dots, as `192.0.2.1`, and after a colon the port
abbrev pub v4_text : Ipv4Address → Option ℕ → List ℕ
v4_text address None = ipv4.address_text address
v4_text address (Some port) = ipv4.address_text address ++ codes ":" ++ decimal port

-- an address with colons, as `2001:db8::1`, in brackets where a port follows it (RFC 5952 sections 4 and 6)
abbrev pub v6_text : Ipv6Address → Option ℕ → List ℕ
v6_text address None = ipv6.address_text address
v6_text address (Some port) = codes "[" ++ ipv6.address_text address ++ codes "]:" ++ decimal port
