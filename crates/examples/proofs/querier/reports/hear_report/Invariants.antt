use Rattle.std.proofs.Common.{List}
use Rattle.examples.specs.QuerierReports.{HearsRecords}
use Rattle.examples.specs.declared.querier.reception.Reception.{Reception}
use Rattle.examples.proofs.querier.reports.hear_report.Given as goal

-- what the records that are left change then is what all change
abbrev pub invariant-loop-record : goal.invariant-loop-record
invariant-loop-record g l =
    (new : List (Reception g.row.A.Denot))
    → HearsRecords g.A.PartialEq.eq g.A.Address.bytes g.A.Address.family g.row.N l.times l.asks l.record-iterator
    l.receptions.items new
    → HearsRecords g.A.PartialEq.eq g.A.Address.bytes g.A.Address.family g.row.N l.initial.times l.initial.asks
    l.initial.record-iterator l.initial.receptions.items new
