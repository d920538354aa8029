-- The words that the proofs of this crate are said in: those of std, of the crates below and of the definitions.
pub use Rattle.std.proofs.Common.{◌≡◌, ◌≤◌, ◌<◌, [], ◌∷◌, ◌+◌, ◌-◌, ◌++◌, ◌∙◌, ◌↔◌, ◌≢◌, ◌^◌, Bool, Err, IfErr, IfOk}
pub use Rattle.std.proofs.Common.{IfSome, IsNone, IsSome, IsTrue, List, None, Ok, Option, Result, Some, ℕ, ap}
pub use Rattle.std.proofs.Common.{append_assoc, arith, drop, false, if◌then◌else◌, inl, inr, length, length-append}
pub use Rattle.std.proofs.Common.{length-drop, refl, rules}
pub use Rattle.std.proofs.Common.{slice_index, subst, suc, sym, take, take_all, true, zero}
pub use Rattle.std.proofs.Common.{◌%◌, ◌*◌, ◌/◌, IfErr, slice_range}
pub use Rattle.std.proofs.lemmas.Grind.{common_steps}
pub use Rattle.std.proofs.lemmas.List.{append-nil, drop_at, take_at}
pub use Rattle.byteorder.specs.Endian.{big_bytes, big_number}
pub use Rattle.frame_wire.specs.Addresses.{sum_before}
pub use Rattle.frame_wire.specs.Captured.{cut}
pub use Rattle.frame_wire.specs.Datagram.{next_header_in}
pub use Rattle.frame_wire.specs.DatagramHeaders.{Passes}
pub use Rattle.frame_wire.specs.Link.{IsTagged, value_of}
pub use Rattle.frame_wire.specs.private.Parts.{typed_of}
unfoldable pub use Rattle.frame_wire.specs.LinkVlans.{tags_in}
pub use Rattle.frame_wire.specs.Udp.{BeginsWhole, HasChecksum, checksum_field, dst_port_field, len_in, payload_field}
pub use Rattle.frame_wire.specs.Udp.{src_port_field, view_octets}
unfoldable pub use Rattle.frame_wire.specs.Udp.{end_in}
pub use Rattle.frame_wire.specs.UdpText.{format, udp_checksum}
unfoldable pub use Rattle.frame_wire.specs.UdpText.{sealed_datagram}
pub use Rattle.wirebase.specs.Bytes.{bytes_of, field, number_of}
unfoldable pub use Rattle.wirebase.specs.Bytes.{part, splice}
pub use Rattle.wirebase.specs.Capabilities.{is_verified}
pub use Rattle.wirebase.specs.Checksum.{IsGood}
unfoldable pub use Rattle.wirebase.specs.Checksum.{sealed}
pub use Rattle.wirebase.specs.Ipv6.{dst_addr_field}
pub use Rattle.wirebase.specs.Ipv6Address.{octets_of}
pub use Rattle.frame_wire.specs.declared.datagram.Addresses.{Addresses}
pub use Rattle.frame_wire.specs.declared.link.vlans.VlanTag.{VlanTag}
pub use Rattle.frame_wire.specs.declared.udp.repr.UdpRepr.{UdpRepr}
pub use Rattle.wirebase.specs.declared.capabilities.ChecksumCapabilities.{ChecksumCapabilities}
pub use Rattle.wirebase.specs.declared.ip.IpProtocol.{IpProtocol}
