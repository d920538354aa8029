use Rattle.std.proofs.Common.{List}
use Rattle.examples.specs.Reporter.{KeepsEach}
use Rattle.examples.specs.declared.reporter.reported.AskedSource.{AskedSource}
use Rattle.examples.proofs.reporter.sources.keep_sources.Given as goal

-- what the sources that are left change then is what all change
abbrev pub invariant-loop-source : goal.invariant-loop-source
invariant-loop-source g l =
    (new : List (AskedSource g.row.A.Denot))
    → KeepsEach g.A.PartialEq.eq g.A.Address.bytes l.group l.source-iterator l.asked.items new
    → KeepsEach g.A.PartialEq.eq g.A.Address.bytes l.initial.group l.initial.source-iterator l.initial.asked.items new
