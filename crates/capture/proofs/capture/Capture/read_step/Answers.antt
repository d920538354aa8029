-- The state of the reading decides what comes next.
use Rattle.std.proofs.Common.{sym, subst, ap, ◌∙◌, arith}
use Rattle.capture.specs.Capture.{State, state_of}
use Rattle.capture.specs.private.Reader.{Reads}
use Rattle.capture.proofs.Sections.{if_ok}
use Rattle.capture.proofs.Units.{record_gives, block_gives}
use Rattle.capture.proofs.capture.Capture.read_step.Goals as goal

pub returns-in-File-clause-gives : goal.returns-in-File-clause-gives
returns-in-File-clause-gives g c =
    if_ok _ _ c.read_record.result
    (λ s t all none. record_gives (state_of c.args.self.now) all _ c.in-File.header
    c.in-File.is (ap State.stage c.read_record.ensures.state ∙ c.in-File.is) s (t all none)) c.read_record.ensures.gives

pub returns-in-Section-clause-gives : goal.returns-in-Section-clause-gives
returns-in-Section-clause-gives g c =
    if_ok _ _ c.read_block.result
    (λ s t all none. block_gives _ all _ c.in-Section.section c.in-Section.is s
    (t all 0 (omega arith) (subst (λ l. Reads all (g.R.Read.remaining c.args.input.now) l 0)
    (sym c.clear.ensures.items) none))) c.read_block.ensures.gives
