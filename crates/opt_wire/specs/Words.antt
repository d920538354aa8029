-- The words of the crates below, and the types: what the definitions of this crate are said in.
unfoldable pub use Rattle.wirebase.specs.ByteWriter.{be16, be32, be8, fields}
pub use Rattle.wirebase.specs.Bytes.{Field, Reaches, byte_of, bytes_of, field, number_of}
unfoldable pub use Rattle.wirebase.specs.Bytes.{over}
pub use Rattle.wirebase.specs.Checks.{Check, Fails, check}
pub use Rattle.wirebase.specs.Display.{pieces}
pub use Rattle.wirebase.specs.Format.{Format, RoundTrips}
pub use Rattle.wirebase.specs.Ip.{protocol_number, protocol_of, protocol_rows}
pub use Rattle.wirebase.specs.Numbered.{IsProper, case_in, rows_of}
pub use Rattle.opt_wire.specs.declared.ipv6option.tables.FailureType.{FailureType}
pub use Rattle.opt_wire.specs.declared.ipv6option.tables.RouterAlert.{RouterAlert}
pub use Rattle.wirebase.specs.declared.ip.IpProtocol.{IpProtocol}
