-- How far the run has come.
use Rattle.std.proofs.Common.{IfSome}
use Rattle.std.specs.Io.Buffered.{reader_remaining}
use Rattle.dump_lines.proofs.Running.{SoFar}
use Rattle.dump_lines.proofs.lines.show_lines.Given as goal

abbrev pub invariant-lines : goal.invariant-lines
invariant-lines g l =
    IfSome (reader_remaining g.R.Read.remaining l.initial.input)
    (λ all. SoFar all (reader_remaining g.R.Read.remaining l.input) l.all_known
    (g.W.Write.contents l.initial.output) (g.W.Write.contents l.output))
