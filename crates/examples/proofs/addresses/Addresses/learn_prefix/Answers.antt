use Rattle.examples.proofs.addresses.Addresses.learn_prefix.Goals as goal

pub returns-then-forms : goal.returns-then-forms
returns-then-forms c = record {
  formed = λ forms. (c.formed-address.result, c.formed-address.ensures, c.learn_formed.ensures);
  ignored = λ none. absurd (none (c.forms.ensures.0 c.if-forms.true));
}
