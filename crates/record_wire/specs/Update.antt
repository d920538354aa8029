-- The data of a record of an update: those of class NONE or ANY may have none, whatever their type (RFC 2136 section
-- 2.5).
use Rattle.std.specs.Prelude.{◌==◌, ◌&&◌, ◌||◌, Bool, List, ℕ, if◌then◌else◌, length}
use Rattle.record_wire.specs.Words.{Layout}
use Rattle.dns_wire.specs.declared.dns.tables.Type.{«Type» as RecordType}
use Rattle.record_wire.specs.RData.{RDataValue, layout_of, IsLaidOut}

-- the classes NONE and ANY
abbrev pub is_without_data : ℕ → List ℕ → Bool
is_without_data class bytes = length bytes == 0 && (class == 254 || class == 255)

-- how the data of a record of this type and class are laid out
abbrev pub data_layout : RecordType → ℕ → List ℕ → Layout
data_layout kind class bytes = if is_without_data class bytes then Layout.Opaque else layout_of kind class

-- these bytes are the data of a record of this type and class
abbrev pub IsDataOf : RecordType → ℕ → List ℕ → RDataValue → Type 0
IsDataOf kind class bytes value = IsLaidOut (data_layout kind class bytes) bytes value
