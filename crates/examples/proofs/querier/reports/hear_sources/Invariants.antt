use Rattle.std.proofs.Common.{List}
use Rattle.examples.specs.QuerierReports.{HearsEach}
use Rattle.examples.specs.declared.querier.reception.Reception.{Reception}
use Rattle.examples.proofs.querier.reports.hear_sources.Given as goal

-- what is said of the sources that are left changes then what all change
abbrev pub invariant-loop-source : goal.invariant-loop-source
invariant-loop-source g l =
    (new : List (Reception g.row.A.Denot))
    → HearsEach g.A.PartialEq.eq g.A.Address.bytes g.row.N l.times l.change l.group l.source-iterator
    l.receptions.items new
    → HearsEach g.A.PartialEq.eq g.A.Address.bytes g.row.N l.initial.times l.initial.change l.initial.group
    l.initial.source-iterator l.initial.receptions.items new
