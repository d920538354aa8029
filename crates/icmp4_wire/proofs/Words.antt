-- The words that the proofs of this crate are said in: those of std, of the crates below and of the definitions.
pub use Rattle.std.proofs.Common.{[], ◌%◌, ◌*◌, ◌++◌, ◌+◌, ◌-◌, ◌/◌, ◌<◌, ◌^◌, ◌∙◌, ◌∷◌, ◌≡◌, ◌≢◌, ◌≤◌, ◌⊎◌, Bool, List}
pub use Rattle.std.proofs.Common.{None, Some, ℕ, add-one, ap, arith, bit_and, bit_or, drop, eqb, false, inl, inr}
pub use Rattle.std.proofs.Common.{length, length-append, lit<, min, nat_lt, refl, rules, subst, suc, sym, true, zero}
pub use Rattle.std.proofs.lemmas.List.{append-nil, length-drop}
pub use Rattle.wirebase.proofs.Format.{IsFormat, all_rewrites, rewrites, round_trips, same_text, same_text-by}
pub use Rattle.wirebase.proofs.IpProtocols.{protocol-read, protocol_of-number}
pub use Rattle.wirebase.proofs.Numbered.{case-read, case_in-unnamed, number-case_in}
pub use Rattle.wirebase.proofs.Pieces.{length-over, over-exact, over-fits}
unfoldable pub use Rattle.wirebase.specs.ByteWriter.{be16, be32, be8, fields}
pub use Rattle.wirebase.specs.Bytes.{IsBytes, Reaches, byte_of, bytes_of}
unfoldable pub use Rattle.wirebase.specs.Bytes.{over, part, splice}
pub use Rattle.wirebase.specs.Checks.{Fails, Passes}
pub use Rattle.wirebase.specs.Duration.{micros_of, of_micros}
pub use Rattle.wirebase.specs.Format.{SameText}
pub use Rattle.wirebase.specs.Ip.{protocol_of}
pub use Rattle.icmp4_wire.specs.declared.icmpv4.tables.DstUnreachable.{DstUnreachable}
pub use Rattle.icmp4_wire.specs.declared.icmpv4.tables.TimeExceeded.{TimeExceeded}
pub use Rattle.icmp4_wire.specs.declared.igmp.repr.IgmpVersion.{IgmpVersion}
pub use Rattle.icmp4_wire.specs.declared.igmp.repr.Repr.{Repr}
pub use Rattle.wirebase.specs.declared.capabilities.ChecksumCapabilities.{ChecksumCapabilities}
pub use Rattle.wirebase.specs.declared.ipv4.Ipv4Address.{Ipv4Address}
pub use Rattle.wirebase.specs.declared.ipv4.Ipv4Repr.{Ipv4Repr}
