-- The text is no host's.
use Rattle.std.proofs.Common.{refl}
use Rattle.dump_captures.proofs.arguments.with_host.Goals as goal

pub returns-in_default-read : goal.returns-in_default-read
returns-in_default-read c = rw c.in-Some.is (refl, rw c.as_str.ensures.value at c.in_default-read.ensures.none)
