-- All letters but the last two are there.
use Rattle.std.proofs.Common.{arith, sym}
use Rattle.std.proofs.lemmas.List.{length-take-le}
use Rattle.dump_captures.proofs.owners.spells.Goals as goal

pub slice_bounds-is_padded-length : goal.slice_bounds-is_padded-length
slice_bounds-is_padded-length c =
    sym (length-take-le 30 c.args.letters.now (omega (arith, c.if-letters-ne-LETTERS.false)))
