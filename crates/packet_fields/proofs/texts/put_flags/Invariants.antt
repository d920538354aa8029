-- The names so far, and those that are left.
use Rattle.std.proofs.Common.{◌≡◌, ◌-◌, ◌++◌, List, drop, ℕ, length, true}
use Rattle.packet_fields.specs.Output.{Gains}
use Rattle.packet_fields.specs.Texts.{flag_names}
use Rattle.packet_fields.specs.Names.{rows_of}
use Rattle.packet_fields.specs.private.TextRuns.{run_from, still_first}
use Rattle.packet_fields.proofs.texts.put_flags.Given as goal

abbrev pub invariant-loop-place : goal.invariant-loop-place
invariant-loop-place g l =
    (done : List (List ℕ))
    × (done ++ flag_names (rows_of (drop l.place l.rows)) l.bits ≡ flag_names (rows_of l.rows) l.bits)
    × (l.is_first ≡ still_first true done)
    × Gains (g.W.Write.contents l.initial.output) (g.W.Write.contents l.output) (run_from l.form true done)

abbrev pub decreases-loop-place : goal.decreases-loop-place
decreases-loop-place g l = length l.rows - l.place
