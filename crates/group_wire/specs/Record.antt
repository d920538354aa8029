-- A record of a report: what a member asks of a group (RFC 3376 section 4.2, RFC 3810 section 5.2).
--
--  0                   1                   2                   3
--  0 1 2 3 4 5 6 7 8 9 0 1 2 3 4 5 6 7 8 9 0 1 2 3 4 5 6 7 8 9 0 1
-- +---------------+---------------+-------------------------------+
-- |  record type  |auxiliary words|       number of sources       |
-- +---------------+---------------+-------------------------------+
-- |             group address, 4 bytes or 16 bytes                |
-- +---------------------------------------------------------------+
-- | sources, of as many bytes each, and auxiliary data
-- +- - - -
use Rattle.std.specs.Prelude.{◌≡◌, ℕ, ◌+◌, ◌*◌, ◌/◌, List, [], ◌∷◌, length, drop}
use Rattle.wirebase.specs.Bytes.{Field, field, part, byte_of, number_of}
use Rattle.wirebase.specs.ByteWriter.{be8, be16, fields}
use Rattle.icmp6_wire.specs.MldTables.{record_type_number, record_type_of}
use Rattle.icmp6_wire.specs.declared.mld.tables.RecordType.{RecordType}
use Rattle.group_wire.specs.declared.record.Record.{Record}

-- the fields before the group, whose place depends on the bytes of an address
abbrev pub record_type_field : Field
record_type_field = field 0 1

abbrev pub words_field : Field
words_field = field 1 2

abbrev pub count_field : Field
count_field = field 2 4

-- the bytes of a record before its sources, and before its auxiliary data
abbrev pub sources_at : ℕ → ℕ
sources_at w = 4 + w

abbrev pub auxiliary_at : ℕ → List ℕ → ℕ
auxiliary_at w bytes = sources_at w + w * number_of count_field bytes

-- the bytes of the record at the front of some bytes, by its own counts
abbrev pub record_len_in : ℕ → List ℕ → ℕ
record_len_in w bytes = auxiliary_at w bytes + 4 * byte_of words_field bytes

-- a record by its content: its type, the octets of its group, those of its sources, and its auxiliary data
pub data RecordValue : Type 0 where
  group_record : RecordType → List ℕ → List ℕ → List ℕ → RecordValue

abbrev pub value_of : {A : Type 0} → (A → List ℕ) → Record A → RecordValue
value_of bytes r = group_record r.record_type (bytes r.group) r.sources.octets.now r.auxiliary.now

-- its fields
abbrev pub record_fields : ℕ → RecordValue → List (List ℕ)
record_fields w (group_record kind group sources auxiliary) =
    be8 (record_type_number kind) ∷ be8 (length auxiliary / 4) ∷ be16 (length sources / w)
    ∷ group ∷ sources ∷ auxiliary ∷ []

abbrev pub text : ℕ → RecordValue → List ℕ
text w v = fields (record_fields w v)

-- what the bytes of a record say
abbrev pub record_in : ℕ → List ℕ → RecordValue
record_in w bytes =
    group_record (record_type_of (byte_of record_type_field bytes)) (part bytes 4 (sources_at w))
    (part bytes (sources_at w) (auxiliary_at w bytes)) (drop (auxiliary_at w bytes) bytes)

-- The grammar: these bytes, all of them, are a record with this content.
pub record IsRecord (w : ℕ) (bytes : List ℕ) (v : RecordValue) : Type 0 where
  pub whole : length bytes ≡ record_len_in w bytes
  pub says : v ≡ record_in w bytes
