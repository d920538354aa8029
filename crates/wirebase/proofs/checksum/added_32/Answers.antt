use Rattle.wirebase.proofs.Words.{◌^◌, refl}
use Rattle.wirebase.proofs.ChecksumSums.{fold-carry}
use Rattle.wirebase.proofs.checksum.added_32.Goals as goal

pub returns : goal.returns
returns c =
    fold-carry
    (2 ^ 32) c.args.a c.args.b _ _ refl c.ranges.a.fits c.ranges.b.fits c.overflowing_add-sum.ensures.value
    c.overflowing_add-sum.ensures.overflow
