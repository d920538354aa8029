-- The phrase.
use Rattle.std.proofs.Common.{◌∙◌, sym}
use Rattle.message_fields.proofs.icmp.show_if_group.Goals as goal

pub returns : goal.returns
returns g c = rw (sym c.is_group.ensures ∙ c.if-not-is_group.false) c.show_phrase.ensures
