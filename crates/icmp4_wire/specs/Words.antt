-- The words of the crates below, and the types: what the definitions of this crate are said in.
pub use Rattle.wirebase.specs.Checks.{Check, Fails, Passes, check}
pub use Rattle.wirebase.specs.Display.{pieces}
pub use Rattle.wirebase.specs.Format.{Format, RoundTrips}
pub use Rattle.wirebase.specs.Icmp.{code_field, type_field}
pub use Rattle.wirebase.specs.Ipv4.{address_text, dst_addr_field}
pub use Rattle.wirebase.specs.Numbered.{IsProper, case_in, rows_of}
pub use Rattle.icmp4_wire.specs.declared.icmpv4.tables.DstUnreachable.{DstUnreachable}
pub use Rattle.icmp4_wire.specs.declared.icmpv4.tables.ParamProblem.{ParamProblem}
pub use Rattle.icmp4_wire.specs.declared.icmpv4.tables.Redirect.{Redirect}
pub use Rattle.icmp4_wire.specs.declared.icmpv4.tables.TimeExceeded.{TimeExceeded}
pub use Rattle.icmp4_wire.specs.declared.igmp.repr.IgmpVersion.{IgmpVersion}
pub use Rattle.wirebase.specs.declared.capabilities.ChecksumCapabilities.{ChecksumCapabilities}
