-- The option's eight bytes are the offset.
use Rattle.std.proofs.Common.{sym, subst}
use Rattle.std.proofs.lemmas.Int.{to_z-of_z}
use Rattle.std.specs.Int.{w64}
use Rattle.capture.specs.Pcapng.{HasOffset, moved_by}
use Rattle.capture.proofs.pcapng.offset.Goals as goal

pub returns-in-Some : goal.returns-in-Some
returns-in-Some c =
    subst (HasOffset c.args.order c.args.options.now)
    (sym (to_z-of_z w64 c.i64_of.result (record { sfits = c.i64_of.type_inv })))
    (moved_by _ c.in-Some.ensures.tells c.i64_of.ensures)
