-- Words about extensions.
use Rattle.std.specs.Prelude.{List, ℕ, codes}
use Rattle.extension_wire.specs.declared.interface.Role.{Role}

-- the roles of interfaces (RFC 5837 section 4.1)
abbrev pub role_name : Role → List ℕ
role_name Role.Incoming = codes "incoming"
role_name Role.SubIp = codes "sub_ip"
role_name Role.Outgoing = codes "outgoing"
role_name Role.NextHop = codes "next_hop"
