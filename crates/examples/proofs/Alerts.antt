-- The bytes that go before a report of listeners.
use Rattle.std.proofs.Common.{◌≡◌, [], ◌∷◌, refl}
use Rattle.control_wire.specs.ByteWriter.{fields, be8, be16}
use Rattle.control_wire.specs.Ipv6ExtHeader as header
use Rattle.control_wire.specs.Ipv6Hbh as options
use Rattle.control_wire.specs.Ipv6Option.{router_alert, pad_n}
use Rattle.control_wire.specs.IpProtocolType.TheVariants.{Icmpv6}
use Rattle.control_wire.specs.RouterAlertType.TheVariants.{MulticastListenerDiscovery}

pub header_bytes : header.text (record { next_header = Icmpv6; count = 0; payload = [] }) ≡ 0x3a ∷ 0 ∷ []
unfolding fields be8
header_bytes = refl

pub options_bytes : options.text (router_alert MulticastListenerDiscovery ∷ pad_n 0 ∷ [])
    ≡ 5 ∷ 2 ∷ 0 ∷ 0 ∷ 1 ∷ 0 ∷ []
unfolding fields be8 be16
options_bytes = refl
