use Rattle.std.proofs.Common.{ap, sym, ◌∙◌}
use Rattle.control_wire.specs.NdiscBlocks.{prefix_in}
use Rattle.control_wire.specs.NdiscOptionRepr.{prefix_information, value_of}
use Rattle.examples.proofs.router.prefix_in.Goals as goal

pub returns-clause-complete : goal.returns-clause-complete
returns-clause-complete c = λ prefix is.
    let whole = c.in-Ok.ensures.complete (prefix_information prefix) (rw c.new_unchecked.ensures is) in
    ap (λ o. prefix_in (value_of o)) (sym c.in-PrefixInformation.is) ∙ ap prefix_in whole

pub returns-in-Err-clause-complete : goal.returns-in-Err-clause-complete
returns-in-Err-clause-complete c = λ prefix is.
    absurd (c.in-Err.ensures.complete (prefix_information prefix) (rw c.new_unchecked.ensures is))
