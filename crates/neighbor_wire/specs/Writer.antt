-- The bytes that a writer of options leaves in the slice that it writes to.
use Rattle.std.specs.Prelude.{◌≡◌, ℕ, List, take, drop}
use Rattle.std.specs.Borrow.{GName}
use Rattle.neighbor_wire.specs.declared.writer.OptionsWriter.{OptionsWriter}

-- the front of the slice, which no later call changes
abbrev pub settled : OptionsWriter → List ℕ
settled w = take w.position w.buffer.now

-- the bytes that are still free
abbrev pub free : OptionsWriter → List ℕ
free w = drop w.position w.buffer.now

-- which slice it writes to
abbrev pub the_slice : OptionsWriter → GName
the_slice w = w.buffer.ghost_name

-- a refused call changes nothing
abbrev pub IsUnchanged : OptionsWriter → OptionsWriter → Type 0
IsUnchanged old new = (settled new ≡ settled old) × (free new ≡ free old)
