-- The words of the crates below, and the types: what the definitions of this crate are said in.
pub use Rattle.dns_wire.specs.DnsTables.{type_number}
pub use Rattle.wirebase.specs.Capabilities.{all_of}
pub use Rattle.wirebase.specs.Display.{truth_text}
pub use Rattle.wirebase.specs.Hexadecimal.{octets_text}
pub use Rattle.wirebase.specs.Ip.{protocol_number}
pub use Rattle.wirebase.specs.Ipv4.{address_text}
pub use Rattle.wirebase.specs.Ipv6Address.{octets_of}
pub use Rattle.opt_wire.specs.declared.ndiscoption.repr.PrefixInformation.{PrefixInformation}
pub use Rattle.wirebase.specs.declared.capabilities.Checksum.{Checksum}
pub use Rattle.wirebase.specs.declared.duration.Duration.{Duration}
pub use Rattle.wirebase.specs.declared.ipv6.Ipv6Repr.{Ipv6Repr}
pub use Rattle.wirebase.specs.declared.ipv6.address.Ipv6Address.{Ipv6Address}
