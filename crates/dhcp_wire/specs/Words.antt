-- The words of the crates below, and the types: what the definitions of this crate are said in.
pub use Rattle.wirebase.specs.Bytes.{Field, Reaches, byte_of, bytes_of, field, number_of}
unfoldable pub use Rattle.wirebase.specs.Bytes.{over}
pub use Rattle.wirebase.specs.Display.{pieces}
pub use Rattle.wirebase.specs.Hexadecimal.{encode_lower, hex_colons}
pub use Rattle.wirebase.specs.Ipv4.{address_text, octets_of}
pub use Rattle.wirebase.specs.LastOf.{last_of}
pub use Rattle.wirebase.specs.Numbered.{IsProper, case_in, rows_of}
pub use Rattle.dhcp_wire.specs.declared.dhcpv4.tables.MessageType.{MessageType}
pub use Rattle.dhcp_wire.specs.declared.dhcpv4.tables.OpCode.{OpCode}
pub use Rattle.wirebase.specs.declared.error.Error.{Error}
pub use Rattle.wirebase.specs.declared.ipv4.Ipv4Address.{Ipv4Address}
