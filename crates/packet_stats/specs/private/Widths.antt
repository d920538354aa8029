-- The widths of addresses.
use Rattle.std.specs.Prelude.{◌==◌, ◌||◌, Bool, ℕ}

-- the octets of an address of IPv4, or of IPv6
abbrev pub is_width : ℕ → Bool
is_width width = (width == 4) || (width == 16)
