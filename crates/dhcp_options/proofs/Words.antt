-- The words that the proofs of this crate are said in: those of std, of the crates below and of the definitions.
pub use Rattle.std.proofs.Common.{[], ◌&&◌, ◌++◌, ◌+◌, ◌-◌, ◌<◌, ◌==◌, ◌^◌, ◌||◌, ◌↔◌, ◌∙◌, ◌∷◌, ◌≡◌, ◌≢◌, ◌≤◌, ◌⊎◌}
pub use Rattle.std.proofs.Common.{Bool, Err, IsOk, List, None, Ok, Option, Result, Some, ℕ}
pub use Rattle.std.proofs.Common.{add-one, ap, arith, cond, drop, drop-cons, eqb, false, flat_map, get_or}
pub use Rattle.std.proofs.Common.{if◌then◌else◌, inl, inr, length, length-append, length-drop, ltb, map, not, refl}
pub use Rattle.std.proofs.Common.{rules, slice_index, subst, suc, sym, take, true, zero}
pub use Rattle.std.proofs.lemmas.Bool.{cases_eq, cases_lt, eqb-false, eqb-true, le-ltb, lt-ltb, ne_eqb}
pub use Rattle.std.proofs.lemmas.List.{append-nil, append_assoc, drop_all, drop_at, get_or-drop, get_or-take}
pub use Rattle.std.proofs.lemmas.List.{length-take, length-take-le, map-append, nil_from_length, take-append-drop}
pub use Rattle.std.proofs.lemmas.List.{take_all, take_at, take_rest}
pub use Rattle.std.specs.Option.{option_map, option_or}
pub use Rattle.wirebase.specs.Answers.{GivesFirst, seen}
pub use Rattle.wirebase.specs.Bytes.{IsBytes, bytes_of}
unfoldable pub use Rattle.wirebase.specs.Bytes.{over, part}
pub use Rattle.dhcp_wire.specs.Dhcpv4Options.{IsKind, OptionValue, Options, option, option_text, value_of_option}
pub use Rattle.dhcp_wire.specs.Dhcpv4Packet.{file_field, inner, options_in}
pub use Rattle.dhcp_wire.specs.Dhcpv4Refusal.{Ends}
pub use Rattle.dhcp_wire.specs.private.Dhcpv4OptionsAhead.{list_of}
pub use Rattle.dhcp_options.specs.Areas.{AreaBytes, area_bytes, areas, sname_field}
pub use Rattle.dhcp_options.specs.Overload.{IsOverload, first_said, said}
pub use Rattle.dhcp_options.specs.Parts.{Answer, ArePartsOf, GiveAll, Gives, PartValue, PlacedAnswer, PlacedValue}
pub use Rattle.dhcp_options.specs.Parts.{is_among, part_of, parts, placed, refusal_in, value_of}
pub use Rattle.dhcp_options.specs.Joined.{copied, joined, octets_of, only}
pub use Rattle.dhcp_options.specs.private.Ahead.{Ahead, HasNoPadding, ahead, ahead_of, cut_of}
pub use Rattle.dhcp_options.specs.private.Areas.{HasAreas, answers_left}
pub use Rattle.dhcp_options.specs.private.Fields.{file_if, sname_if}
pub use Rattle.dhcp_options.specs.private.Fronts.{IsFront, given, placed_of}
unfoldable pub use Rattle.dhcp_options.specs.private.Fronts.{answers_in}
pub use Rattle.dhcp_options.specs.private.Marks.{marked, octets_among}
pub use Rattle.dhcp_options.specs.declared.overload.Overload.{Overload}
pub use Rattle.dhcp_options.specs.declared.parts.Area.{Area}
pub use Rattle.dhcp_options.specs.declared.parts.Refusal.{Refusal}
