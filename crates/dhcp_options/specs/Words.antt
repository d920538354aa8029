-- The words of the crates below, and the types: what the definitions of this crate are said in.
pub use Rattle.wirebase.specs.Bytes.{Field, bytes_of, field}
pub use Rattle.wirebase.specs.Display.{pieces}
pub use Rattle.dhcp_wire.specs.Dhcpv4Options.{OptionValue, Options}
pub use Rattle.dhcp_wire.specs.Dhcpv4Packet.{file_field, options_in}
pub use Rattle.dhcp_wire.specs.Dhcpv4Refusal.{Ends}
pub use Rattle.dhcp_options.specs.declared.overload.Overload.{Overload}
pub use Rattle.dhcp_options.specs.declared.parts.Area.{Area}
pub use Rattle.dhcp_options.specs.declared.parts.Refusal.{Refusal}
