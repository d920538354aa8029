-- The words that the proofs of this crate are said in: those of std, of the crates below and of the definitions.
pub use Rattle.std.proofs.Common.{◌≡◌, ◌+◌, ◌*◌, ◌/◌, ◌%◌, ◌<◌, ◌≤◌, ◌∙◌, ◌⊎◌, [], ◌∷◌, ◌++◌, ◌-◌, ◌^◌, Bool, Bor, Err}
pub use Rattle.std.proofs.Common.{List, None, Ok, Option, Result, Some, ℕ, ap, append_assoc, arith, codes, cond, drop}
pub use Rattle.std.proofs.Common.{eqb, false, get_or, if◌then◌else◌, inl, inr, length, ltb, map, refl, replicate, rules}
pub use Rattle.std.proofs.Common.{slice_get, slice_range, subst, suc, sym, take, true, zero}
pub use Rattle.std.proofs.lemmas.Bool.{cases_lt, le-ltb, lt-ltb, ne_eqb}
pub use Rattle.std.proofs.lemmas.List.{append-nil, drop_at, length-append, length-drop, length-take-le}
pub use Rattle.std.proofs.lemmas.List.{take-append-drop, take_all, take_at, take_rest}
pub use Rattle.std.specs.List.{AllByRecursion, flat_map}
pub use Rattle.byteorder.specs.Endian.{big_bytes}
pub use Rattle.dns_wire.specs.DnsDisplay.{names_set}
pub use Rattle.dns_wire.specs.DnsName.{Follows, HasPath, HaveParts, IsBrokenPath, IsCompletePath, IsFront, IsLabel}
pub use Rattle.dns_wire.specs.DnsName.{IsMark, IsPart, Stop, ends, goes_on, joined, last_window, windows, written}
pub use Rattle.dns_wire.specs.DnsNameAhead.{NamePart, pointer, stop, torn, whole}
pub use Rattle.dns_wire.specs.private.DnsNameAhead.{ahead_of, by_front, front_of}
unfoldable pub use Rattle.dns_wire.specs.private.DnsNameAhead.{answers}
pub use Rattle.dns_wire.specs.DnsNameWalk.{Coming, GivesFirst, Walk, after_first, answer_of, at_end, at_fault}
pub use Rattle.dns_wire.specs.DnsNameWalk.{broken_name, in_window, in_windows, is_ending, label, whole_name}
pub use Rattle.dns_wire.specs.DnsPacket.{flags_in, opcode_in}
pub use Rattle.dns_wire.specs.DnsPart.{IsSplit}
pub use Rattle.dns_wire.specs.DnsQuestion.{QuestionValue}
pub use Rattle.dns_wire.specs.DnsRepr.{Emits, value_of}
pub use Rattle.dns_wire.specs.DnsTables.{IsKnown}
pub use Rattle.wirebase.proofs.ByteParts.{IsBytes-drop, number_of-small}
pub use Rattle.wirebase.proofs.Format.{IsFormat, round_trips, same_text}
pub use Rattle.wirebase.proofs.Numbered.{case-read, case_in-unnamed}
pub use Rattle.wirebase.proofs.Pieces.{over-exact}
unfoldable pub use Rattle.wirebase.specs.ByteWriter.{be16, fields}
pub use Rattle.wirebase.specs.Bytes.{IsBytes, number_of}
unfoldable pub use Rattle.wirebase.specs.Bytes.{over, part}
pub use Rattle.wirebase.specs.Format.{SameText}
pub use Rattle.wirebase.specs.Numbered.{IsProper}
pub use Rattle.dns_wire.specs.declared.dns.refusal.NameRefusal.{NameRefusal}
pub use Rattle.wirebase.specs.declared.error.Error.{Error}
