-- By its messages over TCP, or by its protocol.
use Rattle.std.proofs.Common.{refl}
use Rattle.dump_captures.specs.Sight.{otherwise, over_tcp}
use Rattle.dump_captures.proofs.sight.whole.Goals as goal

pub returns-in-Some : goal.returns-in-Some
returns-in-Some c = over_tcp _ c.in-Some.ensures.some refl

pub returns-in-None : goal.returns-in-None
returns-in-None c = otherwise (c.in-None.ensures.none refl) c.by_protocol.ensures
