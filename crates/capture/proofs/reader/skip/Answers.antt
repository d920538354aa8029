-- The parts are passed over in turn.
use Rattle.std.proofs.Common.{refl}
use Rattle.capture.proofs.Reading.{skips-more, skips-ended}
use Rattle.capture.proofs.reader.skip.Goals as goal

pub parts-preserved : goal.parts-preserved
parts-preserved g c = skips-more _ _ _ _ _ _ _ c.parts.invariant c.in_ok-skipped.ensures.part

pub returns-then-ended-clause-skips : goal.returns-then-ended-clause-skips
returns-then-ended-clause-skips g c =
    skips-ended _ _ _ _ _ _ _ _ c.parts.invariant c.in_ok-skipped.ensures.part c.if-ended.true refl
