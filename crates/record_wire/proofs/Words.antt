-- The words that the proofs of this crate are said in: those of std, of the crates below and of the definitions.
pub use Rattle.std.proofs.Common.{◌≡◌, ◌<◌, ◌≤◌, [], ◌∷◌, ◌∙◌, ◌+◌, ◌-◌, ◌*◌, ◌⊎◌, ◌&&◌, ◌++◌, ◌≢◌, ◌/◌, ◌%◌, ◌↔◌, ◌||◌}
pub use Rattle.std.proofs.Common.{Bool, Err, IfErr, IfOk, IfSome, IsOk, IsSome, List, None, Ok, Option, Result, Some, ℕ}
pub use Rattle.std.proofs.Common.{ap, append_assoc, arith, codes, cond, decimal, drop, eq-eqb, eqb, false, flat_map}
pub use Rattle.std.proofs.Common.{get_or, inl, inr, leb, length, length-append, length-drop, ltb, map, not, refl, rules}
pub use Rattle.std.proofs.Common.{slice_index_or, slice_set, subst, suc, sym, take, true, zero}
pub use Rattle.std.proofs.Math.Seq.{take-append_seam}
pub use Rattle.std.proofs.lemmas.Bool.{cases_lt, eqb-false, eqb-true, le-leb, leb-true, ltb-true}
pub use Rattle.std.proofs.lemmas.Bool.Decides.{Decides-below_and, eqb_tells}
pub use Rattle.std.proofs.lemmas.Fmt.{decimal_digit}
pub use Rattle.std.proofs.lemmas.Grind.{flat_map-append, put_two}
pub use Rattle.std.proofs.lemmas.List.{append-nil, drop_at, length-take-le, nil_from_length, take-append-drop}
pub use Rattle.std.proofs.lemmas.List.{take_more_set, take_rest}
pub use Rattle.std.proofs.lemmas.Str.Ascii.{IsAscii-cons, IsAscii-nil}
pub use Rattle.std.specs.Bool.{beq}
pub use Rattle.std.specs.Char.{is_ascii_digit, is_ascii_graphic}
pub use Rattle.std.specs.Cmp.{booleans_Decides}
pub use Rattle.std.specs.Fmt.{HasWritten, IsPlainFormatter, WritesInCalls}
pub use Rattle.std.specs.List.{AllByRecursion, count_by}
pub use Rattle.std.specs.Str.{IsAscii}
pub use Rattle.dns_wire.proofs.DnsNameTurns.{Points-front, Whole-front}
pub use Rattle.dns_wire.specs.DnsName.{IsLabel, written}
pub use Rattle.dns_wire.specs.DnsNameAhead.{pointer, stop, torn, whole}
pub use Rattle.dns_wire.specs.private.DnsNameAhead.{front_of}
pub use Rattle.dns_wire.specs.DnsPacket.{view_octets}
pub use Rattle.dns_wire.specs.DnsPart.{IsSplit}
pub use Rattle.dns_wire.specs.private.Parts.{shown}
pub use Rattle.dns_wire.specs.DnsTables.{type_of}
pub use Rattle.record_wire.specs.Edns.{Answer, answers_in, option_of}
pub use Rattle.record_wire.specs.Entries.{question, record_in}
pub use Rattle.record_wire.specs.Fields.{AreMaps, AreThree, IsRest, MapValue, RestValue, first_map}
pub use Rattle.record_wire.specs.FieldsText.{maps_text, number_at, types_text}
unfoldable pub use Rattle.record_wire.specs.FieldsText.{byte_text, map_text}
pub use Rattle.record_wire.specs.Labels.{AreOfName, first_label, labels_in, wire, written_all}
pub use Rattle.record_wire.specs.NameDotted.{are_usual, dotted, is_usual}
pub use Rattle.record_wire.specs.private.NameParts.{LabelsAtFront}
pub use Rattle.record_wire.specs.private.Pieces.{Takes}
pub use Rattle.record_wire.specs.private.NameReading.{at_other, behind_in, first_byte}
pub use Rattle.record_wire.specs.NameRefusal.{RefusesName}
pub use Rattle.record_wire.specs.NameText.{GoesOn, IsCharacter, IsNameText, IsTextOf, Spells, behind_dots, character}
pub use Rattle.record_wire.specs.NameText.{is_in, is_special, itself, label_text, name_text, numbered, quoted, specials}
pub use Rattle.record_wire.specs.Names.{Names, most_pointers}
pub use Rattle.record_wire.specs.OptText.{options_text}
pub use Rattle.record_wire.specs.RData.{AreStrings, address6, fields}
pub use Rattle.record_wire.specs.private.Parts.{string_rest}
pub use Rattle.record_wire.specs.Record.{IsBehindName, IsQuestion, IsRecord, QuestionValue, RecordValue, record_of}
pub use Rattle.record_wire.specs.RecordRefusal.{Behind, HasQuestion, HasRecord, IsNoPart}
pub use Rattle.record_wire.specs.Strings.{strings_in}
pub use Rattle.record_wire.specs.ZoneText.{string_words}
unfoldable pub use Rattle.record_wire.specs.ZoneText.{base64, string_text}
pub use Rattle.wirebase.specs.Bytes.{number_of}
pub use Rattle.record_wire.specs.declared.entries.Section.{Section}
pub use Rattle.record_wire.specs.declared.rdata.Layout.{Layout}
pub use Rattle.record_wire.specs.declared.rdata.refusal.DataRefusal.{DataRefusal}
pub use Rattle.record_wire.specs.declared.refusal.PartRefusal.{PartRefusal}
