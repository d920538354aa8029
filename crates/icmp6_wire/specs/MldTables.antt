-- The numbers of multicast listener discovery (RFC 3810 section 5.2.12).
use Rattle.std.specs.Prelude.{ℕ, List, [], ◌∷◌}
use Rattle.icmp6_wire.specs.Words.{rows_of, case_in, RecordType}

abbrev pub record_type_number : RecordType → ℕ
record_type_number RecordType.ModeIsInclude = 1
record_type_number RecordType.ModeIsExclude = 2
record_type_number RecordType.ChangeToInclude = 3
record_type_number RecordType.ChangeToExclude = 4
record_type_number RecordType.AllowNewSources = 5
record_type_number RecordType.BlockOldSources = 6
record_type_number (RecordType.Unknown n) = n

abbrev pub record_types : List RecordType
record_types =
    RecordType.ModeIsInclude ∷ RecordType.ModeIsExclude ∷ RecordType.ChangeToInclude ∷ RecordType.ChangeToExclude
    ∷ RecordType.AllowNewSources ∷ RecordType.BlockOldSources ∷ []

abbrev pub record_type_rows : List (RecordType × ℕ)
record_type_rows = rows_of record_type_number record_types

abbrev pub record_type_of : ℕ → RecordType
record_type_of n = case_in RecordType.Unknown record_type_rows n
