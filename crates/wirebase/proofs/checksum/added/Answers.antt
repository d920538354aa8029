use Rattle.wirebase.proofs.Words.{◌∙◌, refl, sym}
use Rattle.wirebase.proofs.ChecksumSums.{fold_small, fold-carry, carry_small}
use Rattle.wirebase.proofs.checksum.added.Goals as goal

pub returns : goal.returns
returns c =
    let cut = c.overflowing_add-sum.ensures.value in
    let over = c.overflowing_add-sum.ensures.overflow in
    sym (fold_small _ (carry_small 65536 c.args.a c.args.b _ _ c.ranges.a.fits c.ranges.b.fits cut over))
    ∙ fold-carry 65536 c.args.a c.args.b _ _ refl c.ranges.a.fits c.ranges.b.fits cut over
