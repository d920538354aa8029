-- The header of a DNS message (RFC 1035 section 4.1.1).
--
--  0                   1                   2                   3
--  0 1 2 3 4 5 6 7 8 9 0 1 2 3 4 5 6 7 8 9 0 1 2 3 4 5 6 7 8 9 0 1
-- +-------------------------------+-+-------+-------------+-------+
-- |        transaction id         |R| opcode|    flags    | rcode |
-- +-------------------------------+-+-------+-------------+-------+
-- |           questions           |            answers            |
-- +-------------------------------+-------------------------------+
-- |      authority records        |      additional records       |
-- +-------------------------------+-------------------------------+
-- | questions and records
-- +- - - -
use Rattle.std.specs.Prelude.{◌*◌, ◌/◌, ◌%◌, List, ℕ, drop}
use Rattle.std.specs.Borrow.{Bor}
use Rattle.std.specs.Int.Bits.{bit_and, bit_or}
use Rattle.dns_wire.specs.Words.{Field, field}
use Rattle.bitflags.specs.Sets.{without}
use Rattle.dns_wire.specs.DnsTables.{known_bits}
use Rattle.dns_wire.specs.declared.dns.packet.Packet.{Packet}

-- the buffer of a view, and the view with another buffer
abbrev pub inner : {T : Type 0} → Packet T → T
inner view = view.buffer

abbrev pub with_inner : {T : Type 0} → Packet T → T → Packet T
with_inner view buffer = record view { buffer = buffer }

abbrev pub view_octets : Packet (Bor (List ℕ)) → List ℕ
view_octets view = (inner view).now

-- the fields
abbrev pub id_field : Field
id_field = field 0 2

abbrev pub flags_field : Field
flags_field = field 2 4

abbrev pub question_count_field : Field
question_count_field = field 4 6

abbrev pub answer_count_field : Field
answer_count_field = field 6 8

abbrev pub authority_count_field : Field
authority_count_field = field 8 10

abbrev pub additional_count_field : Field
additional_count_field = field 10 12

-- the header, and what follows it
abbrev pub header : Field
header = field 0 12

abbrev pub payload_in : List ℕ → List ℕ
payload_in bytes = drop 12 bytes

-- in the word of flags: the flags that have a name, the kind of query, and the outcome
abbrev pub flags_in : ℕ → ℕ
flags_in word = bit_and word known_bits

abbrev pub opcode_in : ℕ → ℕ
opcode_in word = word / 2048 % 16

abbrev pub rcode_in : ℕ → ℕ
rcode_in word = word % 16

-- the word with other flags, or with another kind of query; all other bits are unchanged
abbrev pub with_flags : ℕ → ℕ → ℕ
with_flags word bits = bit_or (without 16 word known_bits) bits

abbrev pub with_opcode : ℕ → ℕ → ℕ
with_opcode word opcode = bit_or (without 16 word 0x7800) (2048 * opcode)
