-- Each is a remainder.
use Rattle.dump_captures.proofs.Vlans.{all_fit}
use Rattle.dump_captures.proofs.members.are_small.Goals as goal

pub returns : goal.returns
returns c = all_fit c.args.tags.now
