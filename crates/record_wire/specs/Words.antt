-- The words of the crates below, and the types: what the definitions of this crate are said in.
pub use Rattle.dns_wire.specs.DnsDisplay.{name_in, name_or, type_display}
pub use Rattle.dns_wire.specs.DnsName.{IsLabel, IsOnePart, written}
pub use Rattle.dns_wire.specs.DnsPart.{IsSplit}
pub use Rattle.dns_wire.specs.DnsRecord.{length_field}
pub use Rattle.dns_wire.specs.DnsTables.{type_of}
pub use Rattle.wirebase.specs.Bytes.{Field, Reaches, field, number_of}
pub use Rattle.wirebase.specs.Display.{pieces}
pub use Rattle.wirebase.specs.Hexadecimal.{encode_lower}
pub use Rattle.record_wire.specs.declared.edns.OptionRefusal.{OptionRefusal}
pub use Rattle.record_wire.specs.declared.entries.Section.{Section}
pub use Rattle.record_wire.specs.declared.name.refusal.NameRefusal.{NameRefusal}
pub use Rattle.record_wire.specs.declared.rdata.Layout.{Layout}
pub use Rattle.record_wire.specs.declared.rdata.fields.Form.{Form}
pub use Rattle.record_wire.specs.declared.rdata.fields.FrontForm.{FrontForm}
pub use Rattle.record_wire.specs.declared.rdata.fields.RestForm.{RestForm}
pub use Rattle.record_wire.specs.declared.rdata.fields.Signed.{Signed}
pub use Rattle.record_wire.specs.declared.refusal.PartRefusal.{PartRefusal}
pub use Rattle.record_wire.specs.declared.refusal.Refusal.{Refusal}
pub use Rattle.record_wire.specs.declared.text.refusal.TextRefusal.{TextRefusal}
pub use Rattle.wirebase.specs.declared.ipv4.Ipv4Address.{Ipv4Address}
pub use Rattle.wirebase.specs.declared.ipv6.address.Ipv6Address.{Ipv6Address}
