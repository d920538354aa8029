-- The seconds since 1970.
use Rattle.dump_captures.proofs.Moments.{epoch}
use Rattle.dump_captures.proofs.when.When.word.Goals as goal

pub returns-in-Epoch : goal.returns-in-Epoch
returns-in-Epoch c = rw c.in-Epoch.is (epoch c.args.self.time)
