use Rattle.icmp6_wire.specs.private.NdiscOptionsSeen.{noted}
use Rattle.icmp6_wire.proofs.ndisc.options_seen.OptionsSeen.add_block.Goals as goal

pub returns-in-Ok : goal.returns-in-Ok
returns-in-Ok c = noted _ (rw c.new_unchecked.ensures at c.in-Ok.ensures.sound) c.add.ensures
