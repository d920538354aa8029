-- The words of the crates below, and the types: what the definitions of this crate are said in.
pub use Rattle.wirebase.specs.Hexadecimal.{octets_text, hex_colons}
pub use Rattle.opt_wire.specs.NdiscOption.{BeginsWithBlock, units_in}
pub use Rattle.opt_wire.specs.NdiscOptionRepr.{BeginsWith, OptionValue, filled, mtu, padding, prefix_information}
pub use Rattle.opt_wire.specs.NdiscOptionRepr.{redirected, source, target, units, unknown}
pub use Rattle.opt_wire.specs.NdiscOptionTables.{flag_bits, flags_text}
pub use Rattle.wirebase.specs.ByteWriter.{Sheet, free, put_all, sheet, the_slice}
unfoldable pub use Rattle.wirebase.specs.ByteWriter.{be16, be32, be8, fields, put}
pub use Rattle.wirebase.specs.Bytes.{Field, IsBytes, Reaches, byte_of, bytes_of, field, number_of, with_field}
unfoldable pub use Rattle.wirebase.specs.Bytes.{over, part, splice}
pub use Rattle.wirebase.specs.Checks.{Check, Fails, Passes, check}
pub use Rattle.wirebase.specs.Capabilities.{is_computed, is_verified, sealed_where}
pub use Rattle.wirebase.specs.Checksum.{IsGood}
unfoldable pub use Rattle.wirebase.specs.Checksum.{sealed}
pub use Rattle.wirebase.specs.Display.{pieces, truth_text}
pub use Rattle.wirebase.specs.Duration.{micros_of, millis_of, seconds_of, whole_seconds}
pub use Rattle.wirebase.specs.private.Parts.{whole_millis, IsEcho}
unfoldable pub use Rattle.wirebase.specs.Duration.{duration_text}
pub use Rattle.wirebase.specs.Format.{Format, Rewrites, RoundTrips, SameText}
pub use Rattle.wirebase.specs.HardwareAddress.{raw_bytes}
pub use Rattle.wirebase.specs.Icmp.{checksum_field, code_field, data_in, echo_fields, header, type_field}
pub use Rattle.wirebase.specs.Ip.{protocol_number, protocol_rows}
pub use Rattle.wirebase.specs.Ipv6.{IsHeader, header_display, next_header_field}
unfoldable pub use Rattle.wirebase.specs.Ipv6.{header_text, pseudo_sum}
pub use Rattle.wirebase.specs.Ipv6Address.{IsMulticast, address_text, octets_of}
pub use Rattle.wirebase.specs.LastOf.{last_of}
unfoldable pub use Rattle.wirebase.specs.private.Parts.{keep_all}
pub use Rattle.wirebase.specs.Numbered.{IsProper, case_in, rows_of}
pub use Rattle.icmp6_wire.specs.declared.mld.record.AddressRecord.{AddressRecord}
pub use Rattle.icmp6_wire.specs.declared.mld.record.AddressRecordRepr.{AddressRecordRepr}
pub use Rattle.wirebase.specs.declared.capabilities.Checksum.{Checksum}
pub use Rattle.wirebase.specs.declared.capabilities.ChecksumCapabilities.{ChecksumCapabilities}
pub use Rattle.icmp6_wire.specs.declared.icmpv6.tables.DstUnreachable.{DstUnreachable}
pub use Rattle.wirebase.specs.declared.duration.Duration.{Duration}
pub use Rattle.icmp6_wire.specs.declared.ndisc.options_seen.OptionsSeen.{OptionsSeen}
pub use Rattle.wirebase.specs.declared.ip.IpProtocol.{IpProtocol}
pub use Rattle.wirebase.specs.declared.ipv6.address.Ipv6Address.{Ipv6Address}
pub use Rattle.wirebase.specs.declared.ipv6.Ipv6Repr.{Ipv6Repr}
pub use Rattle.icmp6_wire.specs.declared.icmpv6.tables.Message.{Message}
pub use Rattle.icmp6_wire.specs.declared.ndisc.flags.NeighborFlags.{NeighborFlags}
pub use Rattle.icmp6_wire.specs.declared.icmpv6.packet.Packet.{Packet}
pub use Rattle.icmp6_wire.specs.declared.icmpv6.tables.ParamProblem.{ParamProblem}
pub use Rattle.opt_wire.specs.declared.ndiscoption.repr.PrefixInformation.{PrefixInformation}
pub use Rattle.wirebase.specs.declared.ethernet.RawHardwareAddress.{RawHardwareAddress}
pub use Rattle.icmp6_wire.specs.declared.mld.refusal.RecordRefusal.{RecordRefusal}
pub use Rattle.icmp6_wire.specs.declared.mld.tables.RecordType.{RecordType}
pub use Rattle.opt_wire.specs.declared.ndiscoption.repr.RedirectedHeader.{RedirectedHeader}
pub use Rattle.icmp6_wire.specs.declared.ndisc.flags.RouterFlags.{RouterFlags}
pub use Rattle.icmp6_wire.specs.declared.icmpv6.tables.TimeExceeded.{TimeExceeded}
