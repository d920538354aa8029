-- A malformed fragment changes nothing.
use Rattle.std.proofs.Common.{refl}
use Rattle.reassembly.specs.Reassembly.{malformed}
use Rattle.reassembly.proofs.reassembly.Reassembly.put.Goals as goal

pub returns-in-Some-clause-adds : goal.returns-in-Some-clause-adds
returns-in-Some-clause-adds c = malformed c.in-Some.refusal c.in-Some.ensures.malformed refl refl
