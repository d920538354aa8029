-- What one look at an input finds of its next line.
use Rattle.std.specs.Prelude.{◌≡◌, ◌≢◌, ℕ, List, [], Option, Some}
use Rattle.std.specs.Io.BufRead.{strip_last, take_through, drop_through}
use Rattle.dump_lines.specs.Listing.{Shape, line_shape}
use Rattle.dump_lines.specs.Shapes.{seen}
use Rattle.dump_lines.specs.declared.buffered_line.BufferedLine.{BufferedLine}
use Rattle.dump_lines.specs.declared.buffered_line.BufferedLine.TheVariants.{Line, Part, End}

-- there was a line of these octets, of this shape, and the lines after it are left
abbrev pub IsFirst : List ℕ → Option (List ℕ) → Shape → Type 0
IsFirst octets left shape =
    (octets ≢ [])
    × (shape ≡ line_shape (strip_last 10 (take_through 10 octets)))
    × (left ≡ Some (drop_through 10 octets))

-- the first line and what it leaves; all is left, where nothing more is known; or there is no line
abbrev pub Sees : List ℕ → Option (List ℕ) → BufferedLine → Type 0
Sees octets left (Line shape) = IsFirst octets left (seen shape)
Sees octets left Part = left ≡ Some octets
Sees octets left End = octets ≡ []
