-- What comes next in a message.
use Rattle.std.proofs.Common.{◌≡◌, ◌⊎◌, arith, inl, inr, true}
use Rattle.record_wire.specs.Entries.{EntryValue, IsBroken, IsNext, Left, question, record_in}
use Rattle.record_wire.specs.Record.{QuestionValue, RecordValue}
use Rattle.record_wire.specs.declared.entries.Section.{Section}

-- none is left, none begins, or it is a record
pub none_left : (left : Left) → (left.refused ≡ true) ⊎ (left.taken ≡ left.ends.all)
    → (value : EntryValue) (after : Left) → IsNext left value after → ⊥
none_left left why value after next = elim why [
  | inl refused ↦ cc (refused, next.unbroken)
  | inr all ↦ omega (arith, all, next.some)
]

pub none_begins : (left broken : Left) → IsBroken left broken → (value : EntryValue) (after : Left)
    → IsNext left value after → ⊥
none_begins left broken is value after next = is.none value after.bytes next.is

pub no_question : (left behind : Left) (section : Section) (r : RecordValue) → IsNext left (record_in section r) behind
    → (q : QuestionValue) (after : Left) → IsNext left (question q) after → ⊥
no_question left behind section r first q after next = first.is.0 next.is.0
