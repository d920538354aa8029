use Rattle.dhcp_options.proofs.Words.{◌∙◌, Answer, List, answers_left, ap, octets_of}
use Rattle.dhcp_options.proofs.Marks.{octets-marked}
use Rattle.dhcp_options.proofs.parts.Parts.of_kind.Goals as goal

pub returns : goal.returns
returns c =
    c.parts_in.ensures.parts ∙ octets-marked c.args.kind c.self.inside.seen (answers_left c.self.inside.areas)
    ∙ ap (λ (answers : List Answer). octets_of c.args.kind answers) c.self.view_is
