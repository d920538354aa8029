-- Kinds of hardware by their numbers.
use Rattle.std.specs.Prelude.{ℕ, List, [], ◌∷◌, codes, decimal}
use Rattle.wirebase.specs.declared.hardware.Hardware.{Hardware}
use Rattle.wirebase.specs.declared.hardware.Hardware.TheVariants as hardware
use Rattle.wirebase.specs.Numbered.{rows_of, case_in}

-- the assigned number (RFC 826)
abbrev pub hardware_number : Hardware → ℕ
hardware_number hardware.Ethernet = 1
hardware_number (hardware.Unknown n) = n

abbrev pub hardware_rows : List (Hardware × ℕ)
hardware_rows = rows_of hardware_number (hardware.Ethernet ∷ [])

abbrev pub hardware_of : ℕ → Hardware
hardware_of n = case_in hardware.Unknown hardware_rows n

-- the printed text of a kind: its name, or its number
abbrev pub hardware_display : Hardware → List ℕ
hardware_display hardware.Ethernet = codes "Ethernet"
hardware_display (hardware.Unknown n) = decimal n
