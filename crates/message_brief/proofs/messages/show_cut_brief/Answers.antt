-- What there is of the message, and the ending.
use Rattle.message_brief.proofs.Endings.{cut_ends}
use Rattle.message_brief.proofs.messages.show_cut_brief.Goals as goal

pub returns : goal.returns
returns g c = cut_ends g.W.Write.contents _ _ _ _ _ c.put_ending.result c.in_ok-_is_whole.ensures c.put_ending.ensures
