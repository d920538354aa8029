-- The head, and what follows it.
use Rattle.std.proofs.Common.{◌≤◌, arith, length}
use Rattle.std.proofs.lemmas.Bool.{le-ltb}
use Rattle.neighbor_fields.proofs.Told.{told_last}
use Rattle.neighbor_fields.proofs.mld.show_mld.Goals as goal

pub returns-clause-prints : goal.returns-clause-prints
returns-clause-prints g c =
    let long : 4 ≤ length c.args.message.now = omega arith in
    rw (le-ltb (length c.args.message.now) 4 long)
    (told_last _ _ _ c.in_ok-show_head.ensures c.show_body.ensures.prints)
