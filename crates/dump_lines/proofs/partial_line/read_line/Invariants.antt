-- The line is read as far as octets were taken.
use Rattle.dump_lines.specs.PartialLines.{IsKept}
use Rattle.dump_lines.proofs.Taking.{ReadsLine}
use Rattle.dump_lines.proofs.partial_line.read_line.Given as goal

abbrev pub invariant-parts : goal.invariant-parts
invariant-parts g l = record {
  kept : IsKept l.line;
  reads : ReadsLine (g.R.Read.remaining l.initial.input) (g.R.Read.remaining l.input) l.initial.line l.line l.begun;
}
