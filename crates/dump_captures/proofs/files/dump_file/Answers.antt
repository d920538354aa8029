-- The standard input, a file, or none.
use Rattle.std.proofs.Common.{◌∙◌, sym}
use Rattle.dump_captures.proofs.EachFile.{known-file}
use Rattle.dump_captures.proofs.files.dump_file.Goals as goal

pub returns-then-eq : goal.returns-then-eq
returns-then-eq g c =
    rw (sym c.eq.ensures ∙ c.if-eq.true)
    (known-file _ _ _ _ _ _ _ _ _ c.reader.ensures (rw c.start_counts.ensures at c.dump_input.ensures))

pub returns-in-Ok : goal.returns-in-Ok
returns-in-Ok g c =
    rw (sym c.eq.ensures ∙ c.if-eq.false)
    (known-file _ _ _ _ _ _ _ _ _ c.in-Ok.ensures (rw c.start_counts.ensures at c.dump_input-in-Ok.ensures))
