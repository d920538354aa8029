use Rattle.record_wire.proofs.Words.{◌∙◌, sym}
use Rattle.record_wire.proofs.Ahead.{bytes_progress}
use Rattle.record_wire.proofs.StringLists.{strings_none, strings_some}
use Rattle.record_wire.proofs.strings.TxtStringsIterator.next.Goals as goal

pub returns-in-Some-clause-steps : goal.returns-in-Some-clause-steps
returns-in-Some-clause-steps c =
    sym c.self.view_is
    ∙ strings_some c.self.inside.left.now c.in-Some.string.now c.in-Some.rest.now (sym c.in-Some.ensures)

pub returns-in-Some-clause-goes : goal.returns-in-Some-clause-goes
returns-in-Some-clause-goes c = bytes_progress _ _ _ (returns-in-Some-clause-steps c)

pub returns-in-None-clause-steps : goal.returns-in-None-clause-steps
returns-in-None-clause-steps c =
    let ended = sym c.self.view_is ∙ strings_none c.self.inside.left.now (sym c.in-None.ensures) in
    (ended, ended)
