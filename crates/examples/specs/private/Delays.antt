-- The times until messages are answered.
use Rattle.std.specs.Prelude.{None, Option, Some, ℕ}
use Rattle.examples.specs.Reported.{by_chance}

-- by the most that a message says, in milliseconds
abbrev pub delay_in : ℕ → Option ℕ → ℕ
delay_in chance None = 0
delay_in chance (Some most) = by_chance chance most
