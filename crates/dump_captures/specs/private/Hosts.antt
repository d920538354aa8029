-- The bits of a host, as they are read.
use Rattle.std.specs.Prelude.{ℕ, List, Option, None, Some, nat_lt, if◌then◌else◌}
use Rattle.std.specs.Option.{option_and_then}
use Rattle.dump_captures.specs.Settings.{number_in}

-- those of the digits behind the address, at most this many, or all
abbrev pub bits_in : Option (List ℕ) → ℕ → Option ℕ
bits_in None most = Some most
bits_in (Some digits) most =
    option_and_then (λ bits. if nat_lt most bits then None else Some bits) (number_in digits)
