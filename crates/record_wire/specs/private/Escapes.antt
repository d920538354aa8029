-- Bytes of labels and of strings in a zone file (RFC 1035 section 5.1).
use Rattle.std.specs.Prelude.{◌/◌, ◌%◌, ◌^◌, ◌&&◌, Bool, List, ℕ, false, nat_eq, not, slice_index_or}
use Rattle.std.specs.Int.Bits.{bit_and}
use Rattle.std.specs.Char.{is_ascii_graphic}
use Rattle.record_wire.specs.declared.escapes.Escaping.{Escaping}
use Rattle.record_wire.specs.declared.escapes.TheConstants.{PLAIN_IN_LABEL, PLAIN_IN_STRING}
use Rattle.record_wire.specs.Escapes.{has_meaning, is_visible, written_by}

-- a byte that is written as itself
abbrev pub is_plain : Escaping → ℕ → Bool
is_plain escaping byte = is_visible escaping byte && not (has_meaning escaping byte)

-- a byte that is not written as itself: after a backslash where it is visible, by its number
abbrev pub hidden_text : ℕ → List ℕ
hidden_text byte = written_by (is_ascii_graphic byte) false byte

-- a bit for each byte, and those of the bytes that are written as themselves
abbrev pub is_set : List ℕ → ℕ → Bool
is_set table byte = nat_eq (bit_and (slice_index_or {A = ℕ} table (byte / 64) 0 / 2 ^ (byte % 64)) 1) 1

abbrev pub plain_table : Escaping → List ℕ
plain_table Escaping.Label = PLAIN_IN_LABEL
plain_table Escaping.String = PLAIN_IN_STRING
