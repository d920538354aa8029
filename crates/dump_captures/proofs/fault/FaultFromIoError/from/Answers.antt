-- The kind of the error decides.
use Rattle.std.proofs.Common.{ap, sym, ◌∙◌}
use Rattle.dump_captures.specs.Fault.{fault_of}
use Rattle.dump_captures.proofs.Faults.{fault_of-other}
use Rattle.dump_captures.proofs.fault.FaultFromIoError.from.Goals as goal

pub returns-in-BrokenPipe : goal.returns-in-BrokenPipe
unfolding fault_of
returns-in-BrokenPipe c = ap fault_of (sym c.in-BrokenPipe.is ∙ c.kind.ensures)

pub returns-in-OutOfMemory : goal.returns-in-OutOfMemory
unfolding fault_of
returns-in-OutOfMemory c = ap fault_of (sym c.in-OutOfMemory.is ∙ c.kind.ensures)

pub returns-in_default : goal.returns-in_default
returns-in_default c =
    fault_of-other _ c.in_default.not-BrokenPipe c.in_default.not-OutOfMemory ∙ ap fault_of c.kind.ensures
