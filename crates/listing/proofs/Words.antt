-- The words that the proofs of this crate are said in: those of std, of the crates below and of the definitions.
pub use Rattle.std.proofs.Common.{◌≡◌, ◌-◌, ◌≤◌, [], ◌∷◌, ◌++◌, ◌∙◌, List, Ok, OnOk, Option, Result, Some, ℕ, ap}
pub use Rattle.std.proofs.Common.{append_assoc, arith, codes, drop, get_or, inl, inr, length, refl, sym, take}
pub use Rattle.std.proofs.lemmas.List.{take_all}
pub use Rattle.std.specs.Prelude.{map, slice_get}
pub use Rattle.listing.specs.Layout.{IsListingOrRefused}
unfoldable pub use Rattle.listing.specs.Layout.{field, line, part_field}
pub use Rattle.listing.specs.ListingDns.{answers_listing}
pub use Rattle.packet_fields.specs.Output.{Gains, GainsSome}
pub use Rattle.wirebase.specs.Hexadecimal.{octets_text}
pub use Rattle.wirebase.specs.Ipv4.{address_text}
pub use Rattle.wirebase.specs.declared.ipv4.Ipv4Address.{Ipv4Address}
