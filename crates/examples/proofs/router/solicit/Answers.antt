use Rattle.std.proofs.Common.{refl}
use Rattle.std.proofs.lemmas.Option.{IfSome_then}
use Rattle.control_wire.specs.NdiscOptionsSeen.{link_of}
use Rattle.examples.proofs.router.solicit.Goals as goal

pub returns-clause-sent : goal.returns-clause-sent
returns-clause-sent c =
    IfSome_then c.write.result c.write.ensures.written (λ n e. (
      _,
      refl,
      link_of c.sender.result,
      c.sender.ensures,
      e,
    ))
