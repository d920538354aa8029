-- IPv4 addresses as their octets with dots between them.
use Rattle.std.proofs.Common.{◌≡◌, append-nil, append_assoc, codes, decimal}
use Rattle.std.specs.List.{join_by}
use Rattle.wirebase.specs.Ipv4.{address_text, octets_of}
use Rattle.wirebase.specs.declared.ipv4.Ipv4Address.{Ipv4Address}

pub address_joined : (address : Ipv4Address) → address_text address ≡ join_by decimal (codes ".") (octets_of address)
address_joined address = simp (append_assoc, append-nil)
