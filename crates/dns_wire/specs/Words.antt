-- The words of the crates below, and the types: what the definitions of this crate are said in.
unfoldable pub use Rattle.wirebase.specs.ByteWriter.{be16, fields}
pub use Rattle.wirebase.specs.Bytes.{Field, Reaches, field, number_of}
unfoldable pub use Rattle.wirebase.specs.Bytes.{over}
pub use Rattle.wirebase.specs.Checks.{Check, Passes, check}
pub use Rattle.wirebase.specs.Display.{pieces}
pub use Rattle.wirebase.specs.Format.{Format, RoundTrips}
pub use Rattle.wirebase.specs.Numbered.{IsProper}
pub use Rattle.dns_wire.specs.declared.dns.refusal.Refusal.{Refusal}
pub use Rattle.dns_wire.specs.declared.dns.tables.Opcode.{Opcode}
pub use Rattle.dns_wire.specs.declared.dns.tables.Rcode.{Rcode}
