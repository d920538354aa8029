-- The octets that a writer of records leaves in the slice that it writes to.
use Rattle.std.specs.Prelude.{◌≡◌, ℕ, ◌+◌, ◌*◌, ◌<◌, ◌≤◌, List, take, drop}
use Rattle.std.specs.Borrow.{GName}
use Rattle.group_wire.specs.declared.address.Address.{Ghosts}
use Rattle.group_wire.specs.declared.writer.RecordsWriter.{RecordsWriter}
use Rattle.group_wire.specs.Record.{sources_at}

-- the records that are written, one after another, and how many they are
abbrev pub settled : {A : Type 0} {ghosts : Ghosts A} → RecordsWriter A ghosts → List ℕ
settled w = take w.position w.buffer.now

abbrev pub count_of : {A : Type 0} {ghosts : Ghosts A} → RecordsWriter A ghosts → ℕ
count_of w = w.count

-- the bytes that are still free
abbrev pub free : {A : Type 0} {ghosts : Ghosts A} → RecordsWriter A ghosts → List ℕ
free w = drop w.position w.buffer.now

-- which slice it writes to
abbrev pub the_slice : {A : Type 0} {ghosts : Ghosts A} → RecordsWriter A ghosts → GName
the_slice w = w.buffer.ghost_name

-- a record with so many sources may be written after so many others, where so many bytes are free
abbrev pub Fits : ℕ → ℕ → ℕ → ℕ → Type 0
Fits w count room sources = (count < 65535) × (sources ≤ 65535) × (sources_at w + w * sources ≤ room)

-- a refused call changes nothing
abbrev pub IsUnchanged : {A : Type 0} {ghosts : Ghosts A} → RecordsWriter A ghosts → RecordsWriter A ghosts → Type 0
IsUnchanged old new = (settled new ≡ settled old) × (count_of new ≡ count_of old) × (free new ≡ free old)
