-- The types that definitions and proofs speak of; a constructor is written behind its type, as `Type.Constructor`.
pub use Rattle.frame_wire.specs.declared.datagram.Addresses.{Addresses}
pub use Rattle.wirebase.specs.declared.ipv4.Ipv4Address.{Ipv4Address}
pub use Rattle.wirebase.specs.declared.ipv6.address.Ipv6Address.{Ipv6Address}
pub use Rattle.message_fields.specs.declared.message.Service.{Service}
pub use Rattle.packet_pairs.specs.declared.key.EchoKey.{EchoKey}
pub use Rattle.packet_pairs.specs.declared.key.Key.{Key}
pub use Rattle.packet_pairs.specs.declared.key.LeaseKey.{LeaseKey}
pub use Rattle.packet_pairs.specs.declared.key.NameKey.{NameKey}
pub use Rattle.packet_pairs.specs.declared.key.NeighborKey.{NeighborKey}
pub use Rattle.packet_pairs.specs.declared.key.NetbiosKey.{NetbiosKey}
pub use Rattle.packet_pairs.specs.declared.key.Reply.{Reply}
pub use Rattle.packet_pairs.specs.declared.key.Way.{Way}
pub use Rattle.packet_pairs.specs.declared.exchange.Exchange.{Exchange}
pub use Rattle.packet_pairs.specs.declared.exchange.Role.{Role}
pub use Rattle.packet_pairs.specs.declared.pairs.Answered.{Answered}
pub use Rattle.packet_pairs.specs.declared.pairs.Asked.{Asked}
pub use Rattle.packet_pairs.specs.declared.pairs.Fault.{Fault}
