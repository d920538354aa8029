-- It is wrong, or nothing is printed.
use Rattle.packet_fields.proofs.Fields.{prints_none}
use Rattle.dump_captures.proofs.messages.show_header.Goals as goal

pub returns-then-not-is_bad : goal.returns-then-not-is_bad
returns-then-not-is_bad g c = rw c.if-not-is_bad.true (prints_none _ _)

pub returns : goal.returns
returns g c = rw c.if-not-is_bad.false c.field.ensures
