-- The bytes that a writer of options leaves in the slice that it writes to.
use Rattle.std.specs.Prelude.{◌≡◌, ℕ, ◌+◌, ◌≤◌, List, length, take, drop}
use Rattle.std.specs.Borrow.{GName}
use Rattle.dhcp_wire.specs.declared.dhcpv4.options.DhcpOptionWriter.{DhcpOptionWriter}
use Rattle.dhcp_wire.specs.Dhcpv4Options.{OptionValue}

-- the front of the slice, which no later call changes
abbrev pub settled : DhcpOptionWriter → List ℕ
settled w = take w.position w.buffer.now

-- the bytes that are still free
abbrev pub free : DhcpOptionWriter → List ℕ
free w = drop w.position w.buffer.now

-- which slice it writes to
abbrev pub the_slice : DhcpOptionWriter → GName
the_slice w = w.buffer.ghost_name

-- an option may be written where a given number of bytes are free: one byte counts its data
abbrev pub Fits : ℕ → OptionValue → Type 0
Fits room o = (length o.body ≤ 255) × (2 + length o.body ≤ room)

-- a refused call changes nothing
abbrev pub IsUnchanged : DhcpOptionWriter → DhcpOptionWriter → Type 0
IsUnchanged old new = (settled new ≡ settled old) × (free new ≡ free old)
