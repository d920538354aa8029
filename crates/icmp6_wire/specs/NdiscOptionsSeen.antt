-- A pass over the options of a message keeps the last option of each kind.
use Rattle.std.specs.Prelude.{ℕ, List, Option}
use Rattle.std.specs.Option.{option_map}
use Rattle.icmp6_wire.specs.Words.{raw_bytes, RawHardwareAddress, Ipv6Repr, RedirectedHeader}

-- a redirected packet by its content
abbrev pub packet_of : RedirectedHeader → Ipv6Repr × List ℕ
packet_of r = (r.header, r.«data».now)

-- the bytes of a link-layer address that is there
abbrev pub link_of : Option RawHardwareAddress → Option (List ℕ)
link_of address = option_map raw_bytes address
