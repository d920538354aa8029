-- The words that the proofs of this crate are said in: those of std, of the crates below and of the definitions.
pub use Rattle.std.proofs.Common.{[], ◌&&◌, ◌*◌, ◌++◌, ◌+◌, ◌-◌, ◌/◌, ◌<◌, ◌==◌, ◌^◌, ◌↔◌, ◌∙◌, ◌∷◌, ◌≡◌, ◌≢◌, ◌≤◌, ◌⊎◌}
pub use Rattle.std.proofs.Common.{Bool, Err, IsNone, IsOk, IsSome, List, None, Ok, OnErr, OnOk, Option, Result, Some, ℕ}
pub use Rattle.std.proofs.Common.{add-one, ap, arith, codes, cond, decimal, drop, drop-cons, eqb, false, flat_map}
pub use Rattle.std.proofs.Common.{get_or, if◌then◌else◌, inl, inr, is_ok, length, length-append, length-drop, ltb, map}
pub use Rattle.std.proofs.Common.{refl, rules, slice_index, subst, suc, sym, take, true, zero}
pub use Rattle.std.proofs.lemmas.Bool.{cases_eq, cases_lt, eqb-false, eqb-true, le-ltb, lt-ltb, ne_eqb}
pub use Rattle.std.proofs.lemmas.Grind.{common_steps}
pub use Rattle.std.proofs.lemmas.List.{append-nil, append_assoc, drop-drop, drop_all, drop_at, length-take}
pub use Rattle.std.proofs.lemmas.List.{length-take-le, take-append-drop, take_all, take_at, take_rest}
pub use Rattle.std.proofs.lemmas.List.Concat.{flat_map-cons}
pub use Rattle.std.specs.Fmt.{HasWritten, IsPlainFormatter}
pub use Rattle.std.specs.Option.{option_map, option_or}
pub use Rattle.std.specs.Str.{IsUtf8}
pub use Rattle.byteorder.specs.Endian.{big_bytes, big_number, little_number}
pub use Rattle.byteorder.specs.Numbers.{big_from-lt, big_number-reads_back, little_from-cons, little_from-lt}
pub use Rattle.dhcp_wire.specs.Dhcpv4.{AreOfEthernet, HasHeader, IsOfEthernet, IsPacket, Slot, Value, address_in}
pub use Rattle.dhcp_wire.specs.Dhcpv4.{ethernet_at, fixed_value, flags_of, given, has_broadcast, header_fields}
pub use Rattle.dhcp_wire.specs.Dhcpv4.{identifier_in, number_in, of_slot, of_slots, options_of, said, servers_in, slot}
pub use Rattle.dhcp_wire.specs.Dhcpv4.{slots_of, text, type_among, type_in, value_of}
unfoldable pub use Rattle.dhcp_wire.specs.Dhcpv4.{header_text, options_text, with_options}
pub use Rattle.dhcp_wire.specs.Dhcpv4Format.{AllShort, AreAdditional, Emits, IsBelow, IsCanonical, IsFew, IsOther}
pub use Rattle.dhcp_wire.specs.Dhcpv4Format.{data_len, fields_len, fits, format, norm, options_len, slots_len, text_len}
unfoldable pub use Rattle.dhcp_wire.specs.Dhcpv4Format.{texts_before}
pub use Rattle.dhcp_wire.specs.Dhcpv4OptionDisplay.{character}
pub use Rattle.dhcp_wire.specs.Dhcpv4OptionValue.{first_address}
unfoldable pub use Rattle.dhcp_wire.specs.Dhcpv4OptionValue.{addresses_in}
pub use Rattle.dhcp_wire.specs.Dhcpv4Options.{IsKind, OptionValue, Options, ended, goes_on, lone, none, option}
pub use Rattle.dhcp_wire.specs.Dhcpv4Options.{option_text, padded, torn, value_of_option}
pub use Rattle.dhcp_wire.specs.private.Parts.{HasNoPadding}
pub use Rattle.dhcp_wire.specs.private.Dhcpv4OptionsAhead.{list_of}
pub use Rattle.dhcp_wire.specs.Dhcpv4Packet.{HasNoZero, IsTextIn, ethernet_type, inner, op_field, options_in}
pub use Rattle.dhcp_wire.specs.Dhcpv4Refusal.{Ends, IsFirstOther, last_type}
pub use Rattle.dhcp_wire.specs.private.Dhcpv4Writing.{WritesOptions}
unfoldable pub use Rattle.dhcp_wire.specs.private.Dhcpv4Writing.{progress, step_all, step_slot}
pub use Rattle.wirebase.proofs.Chains.{over-puts, put-append, put-fields, whole-sheet}
pub use Rattle.wirebase.proofs.Format.{IsFormat, rewrites, round_trips, same_text}
pub use Rattle.wirebase.proofs.LastOf.{or-assoc, or-none}
pub use Rattle.wirebase.proofs.Numbered.{case-read, case_in-unnamed}
pub use Rattle.wirebase.proofs.Pieces.{length-big_bytes, over-exact, over-fits, pieces}
pub use Rattle.wirebase.specs.ByteWriter.{IsBlank, Puts, Sheet, Writer, sheet}
unfoldable pub use Rattle.wirebase.specs.ByteWriter.{be16, be32, be8, fields, put}
pub use Rattle.wirebase.specs.Bytes.{IsBytes, byte_of}
unfoldable pub use Rattle.wirebase.specs.Bytes.{over, part}
pub use Rattle.wirebase.specs.Ipv4.{address_text, octets_of}
pub use Rattle.wirebase.specs.LastOf.{last_of}
pub use Rattle.wirebase.specs.Numbered.{IsProper}
pub use Rattle.dhcp_wire.specs.declared.dhcpv4.tables.MessageType.{MessageType}
pub use Rattle.wirebase.specs.declared.error.Error.{Error}
pub use Rattle.wirebase.specs.declared.ipv4.Ipv4Address.{Ipv4Address}
