-- What the message says, and the ending.
use Rattle.message_brief.proofs.Endings.{brief_ends}
use Rattle.message_brief.proofs.messages.show_brief.Goals as goal

pub returns : goal.returns
returns g c = brief_ends g.W.Write.contents _ _ _ _ _ c.put_ending.result c.in_ok-is_whole.ensures c.put_ending.ensures
