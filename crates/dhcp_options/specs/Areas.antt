-- The areas of a packet: its fields that hold options, in the order in which they are read (RFC 2131 sections 2 and
-- 4.1). RFC 3396 calls them together the aggregate option buffer.
--
-- +---------+-----------------+------------------------------+
-- | field   | bytes           | holds options                |
-- +---------+-----------------+------------------------------+
-- | options | 240 to the last | always                       |
-- | file    | 108 to 235      | where option 52 says 1 or 3  |
-- | sname   | 44 to 107       | where option 52 says 2 or 3  |
-- +---------+-----------------+------------------------------+
--
-- The hardware address before sname has its 16 bytes here (bytes 28 to 43).
use Rattle.std.specs.Prelude.{[], ◌∷◌, List, None, Option, Some, ℕ}
use Rattle.dhcp_options.specs.Words.{Area, Field, Overload, bytes_of, field, file_field, options_in}

abbrev pub sname_field : Field
sname_field = field 44 108

-- an area with its bytes
pub record AreaBytes : Type 0 where
  pub area : Area
  pub bytes : List ℕ

abbrev pub area_bytes : Area → List ℕ → AreaBytes
area_bytes area bytes = record { area = area; bytes = bytes }

abbrev pub options_area : List ℕ → AreaBytes
options_area bytes = area_bytes Area.Options (options_in bytes)

abbrev pub file_area : List ℕ → AreaBytes
file_area bytes = area_bytes Area.File (bytes_of file_field bytes)

abbrev pub sname_area : List ℕ → AreaBytes
sname_area bytes = area_bytes Area.Sname (bytes_of sname_field bytes)

-- the areas of a packet with this overload
abbrev pub areas : Option Overload → List ℕ → List AreaBytes
areas None bytes = options_area bytes ∷ []
areas (Some Overload.File) bytes = options_area bytes ∷ file_area bytes ∷ []
areas (Some Overload.Sname) bytes = options_area bytes ∷ sname_area bytes ∷ []
areas (Some Overload.FileAndSname) bytes = options_area bytes ∷ file_area bytes ∷ sname_area bytes ∷ []
