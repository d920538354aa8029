-- Each turn looks at the name of a question or a record.
use Rattle.std.proofs.Common.{false, inl, inr, true}
use Rattle.record_wire.specs.Entries.{entry_of}
use Rattle.dump_captures.specs.Owners.{further, here, none_begins, none_left}
use Rattle.dump_captures.proofs.owners.has_owner.Goals as goal

pub returns-in-None : goal.returns-in-None
returns-in-None c =
    c.loop-entry.invariant.goes_on false
    (none_left _ (elim c.in-None.ensures.steps.0 [
      | inl refused ↦ absurd (cc (refused, c.loop-entry.invariant.unbroken))
      | inr all ↦ all
    ]))

pub returns-in-Some-Err : goal.returns-in-Some-Err
returns-in-Some-Err c =
    c.loop-entry.invariant.goes_on false
    (none_begins _ _ (rw c.in-Some-Err.field-0-is at c.in-Some-Err.ensures.steps))

pub returns-then-name_ends : goal.returns-then-name_ends
returns-then-name_ends c =
    c.loop-entry.invariant.goes_on true
    (here _ _ (entry_of c.in-Some-Ok.entry) (rw c.in-Some-Ok.field-0-is at c.in-Some-Ok.ensures.steps)
    (rw (c.owner_in.ensures, c.if-name_ends.true) at c.name_ends.ensures))

pub loop-entry-preserved : goal.loop-entry-preserved
loop-entry-preserved c =
    let next = rw c.in-Some-Ok.field-0-is at c.in-Some-Ok.ensures.steps in
    record {
      unbroken = next.refused;
      goes_on = λ has more.
          c.loop-entry.invariant.goes_on has
          (further _ _ (entry_of c.in-Some-Ok.entry) has next
          (rw (c.owner_in.ensures, c.if-name_ends.false) at c.name_ends.ensures) more);
    }
