use Rattle.dhcp_options.proofs.Words.{[], ◌∙◌, None, Some, ahead, value_of_option}
use Rattle.dhcp_options.proofs.AreaAnswers.{answers-ahead, answers-nothing, answers-option, answers-refusal}
use Rattle.dhcp_options.proofs.front.next_in.Goals as goal

pub returns-in-Whole-clause-steps : goal.returns-in-Whole-clause-steps
returns-in-Whole-clause-steps c =
    answers-option c.args.area c.args.octets.now c.in-Whole.rest.now (value_of_option c.in-Whole.option)
    c.in-Whole.ensures.0

pub returns-in-Cut-clause-steps : goal.returns-in-Cut-clause-steps
returns-in-Cut-clause-steps c =
    answers-ahead c.args.area c.args.octets.now (ahead [] (Some c.in-Cut.kind)) c.in-Cut.ensures
    ∙ answers-refusal c.args.area c.in-Cut.kind

pub returns-in-End-clause-steps : goal.returns-in-End-clause-steps
returns-in-End-clause-steps c = (
  answers-ahead c.args.area c.args.octets.now (ahead [] None) c.in-End.ensures,
  answers-nothing c.args.area,
)
