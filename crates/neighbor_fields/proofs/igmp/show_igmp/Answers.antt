-- The type, and what follows it.
use Rattle.std.proofs.Common.{◌≤◌, arith, length}
use Rattle.std.proofs.lemmas.Bool.{le-ltb}
use Rattle.neighbor_fields.proofs.Told.{told_last}
use Rattle.neighbor_fields.proofs.igmp.show_igmp.Goals as goal

pub returns-clause-prints : goal.returns-clause-prints
returns-clause-prints g c =
    let long : 8 ≤ length c.args.message.now = omega arith in
    let head = rw c.type_name.ensures at c.in_ok-named.ensures in
    rw (le-ltb (length c.args.message.now) 8 long) (told_last _ _ _ head c.show_body.ensures.prints)
