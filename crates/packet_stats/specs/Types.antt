-- The types that definitions and proofs speak of; a constructor is written behind its type, as `Type.Constructor`.
pub use Rattle.frame_wire.specs.declared.datagram.Addresses.{Addresses}
pub use Rattle.message_fields.specs.declared.message.Service.{Service}
pub use Rattle.packet_stats.specs.declared.row.Mention.{Mention}
pub use Rattle.packet_stats.specs.declared.row.Row.{Row}
pub use Rattle.packet_stats.specs.declared.subject.FilterMode.{FilterMode}
pub use Rattle.packet_stats.specs.declared.subject.IpAddress.{IpAddress}
pub use Rattle.packet_stats.specs.declared.subject.Source.{Source}
pub use Rattle.packet_stats.specs.declared.subject.Subject.{Subject}
pub use Rattle.packet_stats.specs.declared.table.Fault.{Fault}
