-- The status that a run ends with.
use Rattle.std.specs.Prelude.{ℕ, Bool, true, false, Result, Ok, Err}
use Rattle.dump_lines.specs.declared.fault.Fault.{Fault}

-- 0 where each line had a known shape, 2 where one had none, and 3 for a fault
abbrev pub status_of : Result Bool Fault → ℕ
status_of (Ok true) = 0
status_of (Ok false) = 2
status_of (Err fault) = 3
