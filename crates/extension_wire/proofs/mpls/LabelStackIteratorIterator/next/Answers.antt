use Rattle.std.proofs.Common.{◌∙◌, List, ℕ, sym, subst}
use Rattle.extension_wire.specs.Mpls.{IsEntry}
use Rattle.extension_wire.proofs.Labels.{no_entry_ahead, entry_ahead, entry_progress}
use Rattle.extension_wire.proofs.mpls.LabelStackIteratorIterator.next.Goals as goal

pub returns-then-self-lt-ENTRY_LEN-clause-steps : goal.returns-then-self-lt-ENTRY_LEN-clause-steps
returns-then-self-lt-ENTRY_LEN-clause-steps c =
    let ended = sym c.self.view_is ∙ no_entry_ahead c.self.inside.rest.now c.if-self-lt-ENTRY_LEN.true in
    (ended, ended)

pub returns-clause-steps : goal.returns-clause-steps
returns-clause-steps c =
    sym c.self.view_is
    ∙ entry_ahead c.self.inside.rest.now c.split_at.result.1.now _ c.if-self-lt-ENTRY_LEN.false c.split_at.ensures.back
    (subst (λ (l : List ℕ). IsEntry l c.read.result) c.split_at.ensures.front c.read.ensures)

pub returns-clause-goes : goal.returns-clause-goes
returns-clause-goes c = entry_progress _ _ _ (returns-clause-steps c)
