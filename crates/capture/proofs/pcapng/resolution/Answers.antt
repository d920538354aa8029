-- The option's one byte is the resolution.
use Rattle.std.proofs.Common.{refl}
use Rattle.capture.specs.Pcapng.{told}
use Rattle.capture.proofs.pcapng.resolution.Goals as goal

pub returns-in-Some : goal.returns-in-Some
returns-in-Some c = told _ c.in-Some.ensures.tells refl
