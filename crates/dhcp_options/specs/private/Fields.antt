-- The bytes of file and sname, where they hold options: an area that holds none has no bytes here.
use Rattle.std.specs.Prelude.{[], List, None, Option, Some, ℕ}
use Rattle.dhcp_options.specs.Words.{Overload, bytes_of, file_field}
use Rattle.dhcp_options.specs.Areas.{sname_field}

abbrev pub file_if : Option Overload → List ℕ → List ℕ
file_if None bytes = []
file_if (Some Overload.File) bytes = bytes_of file_field bytes
file_if (Some Overload.Sname) bytes = []
file_if (Some Overload.FileAndSname) bytes = bytes_of file_field bytes

abbrev pub sname_if : Option Overload → List ℕ → List ℕ
sname_if None bytes = []
sname_if (Some Overload.File) bytes = []
sname_if (Some Overload.Sname) bytes = bytes_of sname_field bytes
sname_if (Some Overload.FileAndSname) bytes = bytes_of sname_field bytes
