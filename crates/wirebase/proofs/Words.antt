-- The words that the proofs of this crate are said in: those of std, of the crates below and of the definitions.
pub use Rattle.std.proofs.Common.{◌≡◌, ◌<◌, ◌∷◌, ◌+◌, ◌-◌, ◌^◌, [], ◌++◌, ◌≢◌, ◌%◌, ◌≤◌, ◌∙◌, ◌*◌, ◌/◌, ◌&&◌, ◌||◌}
pub use Rattle.std.proofs.Common.{Bool, Err, IsOk, IsOkAnd, IsTrue, List, Ok, Result, ℕ, ⊎_elim, ap, append_assoc}
pub use Rattle.std.proofs.Common.{arith, codes, cond, decimal, drop, eqb, false, flat_map, get_or, inl, inr, length}
pub use Rattle.std.proofs.Common.{length-append, length-drop, lt-ltb, min, nat_lt, refl, replicate, rules, set}
pub use Rattle.std.proofs.Common.{slice_index, slice_set, subst, suc, sum, sym, take, true, w64, w8, zero, zero-add}
pub use Rattle.std.proofs.Math.Nat.{ℕ_set, div-add-mod', mod-eq_of_lt}
pub use Rattle.std.proofs.Math.Seq.{take-append-add}
pub use Rattle.std.proofs.lemmas.Bool.{agree_below_at, cases_lt, eqb-true, le-leb, lt-leb}
pub use Rattle.std.proofs.lemmas.Fmt.{IsAscii-decimal, decimal_digit, decimal_step}
pub use Rattle.std.proofs.lemmas.Grind.{common_steps, put_two, take-set_at}
pub use Rattle.std.proofs.lemmas.List.{append-nil, drop-drop, drop_all, drop_at, get_or-drop, length-take-le}
pub use Rattle.std.proofs.lemmas.List.{nil_from_length, take-append-drop, take-take, take_all, take_at, take_more_set}
pub use Rattle.std.proofs.lemmas.List.{take_rest}
pub use Rattle.std.proofs.lemmas.Slice.{take-put_mid}
pub use Rattle.std.specs.Char.{digit_char}
pub use Rattle.std.specs.Fmt.{HasWritten, IsPlainFormatter, WritesInCalls}
pub use Rattle.std.specs.Net.Addr.{segments_of}
pub use Rattle.std.specs.Net.Text.{groups_text, longest_zero_run}
unfoldable pub use Rattle.std.specs.Net.Text.{hex, hex_groups_text}
pub use Rattle.std.specs.Prelude.{◌==◌, None, Option, Some}
pub use Rattle.std.specs.Slice.Iter.{chunks_rest, chunks_size}
pub use Rattle.std.specs.Str.{IsAscii}
pub use Rattle.byteorder.specs.Endian.{big_bytes, big_number}
pub use Rattle.byteorder.specs.Numbers.{big_number-reads_back}
pub use Rattle.hex.specs.Hex.{encode_lower, lower_digits}
pub use Rattle.wirebase.specs.ByteWriter.{Puts, Sheet, blank, put_all, sheet}
unfoldable pub use Rattle.wirebase.specs.ByteWriter.{be16, be32, be8, fields, put, sheet_of}
pub use Rattle.wirebase.specs.Bytes.{Field, IsBytes, Reaches, field, number_of, with_field}
unfoldable pub use Rattle.wirebase.specs.Bytes.{over, part, splice}
pub use Rattle.wirebase.specs.Capabilities.{sealed_where}
pub use Rattle.wirebase.specs.Checksum.{IsGood, zeroed}
unfoldable pub use Rattle.wirebase.specs.Checksum.{fold, sealed, word_sum}
pub use Rattle.wirebase.specs.Digits.{last_digits}
pub use Rattle.wirebase.specs.HardwareAddress.{raw_bytes}
pub use Rattle.wirebase.specs.Icmp.{echo_fields}
pub use Rattle.wirebase.specs.Ip.{protocol_number, protocol_rows, protocols}
pub use Rattle.wirebase.specs.Ipv4.{Emits, octets_of}
unfoldable pub use Rattle.wirebase.specs.Ipv4.{header_fields}
pub use Rattle.wirebase.specs.Ipv6.{IsHeader}
unfoldable pub use Rattle.wirebase.specs.Ipv6.{pseudo_fields}
pub use Rattle.wirebase.specs.Numbered.{IsProper}
pub use base.Fml.{GName, flft}
pub use borrow.Rule.Slice.PartMut.{put_mid}
pub use borrow.Table.Elements.{at}
pub use denote.Array.{Array}
pub use denote.Follow.{follows}
pub use denote.Memory.{mem}
pub use denote.RattleType.{RattleType}
pub use denote.Slice.{MutSlice, Room, slice_val}
pub use mir.Val.{Val}
pub use types.Kit.{◌⊛◌, ◌$◌, ◌∵◌, !, ‵, await, done, feq_l, fjoin, fsplit, fsplit3, join, later, move, pick, qed}
pub use types.Kit.{rewrite, some, split, split3, use1, use2}
pub use Rattle.wirebase.specs.declared.capabilities.Checksum.{Checksum}
pub use Rattle.wirebase.specs.declared.ip.IpProtocol.{IpProtocol}
pub use Rattle.wirebase.specs.declared.ipv4.Ipv4Repr.{Ipv4Repr}
