-- The words that the proofs of this crate are said in: those of std, of the crates below and of the definitions.
pub use Rattle.std.proofs.Common.{[], ◌%◌, ◌*◌, ◌++◌, ◌+◌, ◌-◌, ◌/◌, ◌<◌, ◌^◌, ◌∙◌, ◌∷◌, ◌≡◌, ◌≢◌, ◌≤◌, ◌⊎◌, Bool, Err}
pub use Rattle.std.proofs.Common.{List, None, Ok, Option, Some, ℕ, add-one, ap, arith, cond, drop, eqb, false, inl, inr}
pub use Rattle.std.proofs.Common.{length, length-append, ltb, map, min, refl, replicate, slice_index, subst, suc}
pub use Rattle.std.proofs.Common.{sum_by, sym, take, true, zero}
pub use Rattle.std.proofs.lemmas.Bool.{cases_lt, eqb-false, eqb-true, le-leb, le-ltb, leb-false, leb-true, ltb-false}
pub use Rattle.std.proofs.lemmas.Bool.{ne_eqb}
pub use Rattle.std.proofs.lemmas.Bool.Decides.{nat_tests}
pub use Rattle.std.proofs.lemmas.List.{append-nil, append_assoc, drop_all, drop_at, drop_more, get_or-take, get_or_past}
pub use Rattle.std.proofs.lemmas.List.{length-drop, length-map, length-replicate, length-take, length-take-le}
pub use Rattle.std.proofs.lemmas.List.{map-append, take-append-drop, take-take, take_all, take_at}
pub use Rattle.std.proofs.lemmas.List.Sums.{sum_by-cons}
pub use Rattle.std.specs.Prelude.{◌&&◌, Result, nat_le}
pub use Rattle.std.specs.Result.{IfOk, IsErr, IsOkAnd}
pub use Rattle.byteorder.specs.Endian.{big_bytes, big_number}
pub use Rattle.opt_wire.specs.Ipv6HbhRefusal.{none, options_display}
pub use Rattle.opt_wire.specs.Ipv6Option.{IsOption, OptionValue, pad1, pad_n, router_alert, unknown, value_of}
pub use Rattle.opt_wire.specs.Ipv6OptionAnswers.{Answer, Tile, breaks, ends, goes_on}
pub use Rattle.opt_wire.specs.NdiscOption.{BeginsWithBlock, preferred_lifetime_field, prefix_flags_field}
pub use Rattle.opt_wire.specs.NdiscOption.{redirected_field, type_field, units_in, view_octets}
pub use Rattle.opt_wire.specs.NdiscOptionTables.{flag_bits, known, known_bits, type_of}
pub use Rattle.wirebase.proofs.Chains.{chain, put-append, put-fields}
pub use Rattle.wirebase.proofs.Format.{IsFormat, all_rewrites, round_trips, same_text}
pub use Rattle.wirebase.proofs.IpProtocols.{protocol-read, protocol_of-number}
pub use Rattle.wirebase.proofs.Ipv6Header.{length-header_text, one_header, same_address}
pub use Rattle.wirebase.proofs.Numbered.{case-read, case_in-unnamed, number-case_in}
pub use Rattle.wirebase.proofs.Pieces.{length-part, over-exact, over-fits}
pub use Rattle.wirebase.specs.ByteWriter.{Puts, Sheet, Writer, free, put_all, sheet, the_slice}
unfoldable pub use Rattle.wirebase.specs.ByteWriter.{be16, be32, be8, fields, put}
pub use Rattle.wirebase.specs.Bytes.{IsBytes, byte_of, bytes_of, number_of}
unfoldable pub use Rattle.wirebase.specs.Bytes.{over, part}
pub use Rattle.wirebase.specs.Duration.{micros_of, of_micros, seconds_of, whole_seconds}
pub use Rattle.wirebase.specs.Format.{SameText}
pub use Rattle.wirebase.specs.Ip.{protocol_number, protocol_of, protocol_rows}
pub use Rattle.wirebase.specs.Ipv6Address.{octets_of}
pub use Rattle.wirebase.specs.Numbered.{IsProper}
pub use Rattle.opt_wire.specs.declared.ipv6option.tables.RouterAlert.{RouterAlert}
pub use Rattle.opt_wire.specs.declared.ndiscoption.repr.PrefixInformation.{PrefixInformation}
pub use Rattle.wirebase.specs.declared.duration.Duration.{Duration}
pub use Rattle.wirebase.specs.declared.error.Error.{Error}
pub use Rattle.wirebase.specs.declared.ipv6.Ipv6Repr.{Ipv6Repr}
pub use Rattle.wirebase.specs.declared.ipv6.address.Ipv6Address.{Ipv6Address}
