-- The words of the crates below, and the types: what the definitions of this crate are said in.
pub use Rattle.wirebase.specs.Bytes.{bytes_of, field, number_of}
unfoldable pub use Rattle.wirebase.specs.Bytes.{part}
pub use Rattle.wirebase.specs.Capabilities.{is_verified}
pub use Rattle.wirebase.specs.Display.{pieces}
pub use Rattle.frame_wire.specs.declared.datagram.Addresses.{Addresses}
pub use Rattle.frame_wire.specs.declared.datagram.Head.{Head}
pub use Rattle.frame_wire.specs.declared.datagram.Refusal.{Refusal}
pub use Rattle.frame_wire.specs.declared.datagram.captured.Extent.{Extent}
pub use Rattle.frame_wire.specs.declared.link.Link.{Link}
pub use Rattle.frame_wire.specs.declared.link.Network.{Network}
pub use Rattle.frame_wire.specs.declared.udp.repr.UdpRepr.{UdpRepr}
pub use Rattle.wirebase.specs.declared.capabilities.ChecksumCapabilities.{ChecksumCapabilities}
pub use Rattle.wirebase.specs.declared.ip.IpProtocol.{IpProtocol}
