use Rattle.std.proofs.Common.{List, length}
use Rattle.icmp6_wire.specs.Words.{keep_all, OptionValue}
use Rattle.icmp6_wire.specs.NdiscBlocks.{AreBlocks}
use Rattle.icmp6_wire.specs.private.NdiscOptionsSeen.{kept_of, keep, Says, HasBlocks}
use Rattle.icmp6_wire.proofs.ndisc.options_seen.OptionsSeen.add_all.Given as goal

-- the options to come, kept too, are all that the payload says; and what is left is blocks, where all is
abbrev pub invariant-loop-rest : goal.invariant-loop-rest
invariant-loop-rest l = record {
  said : (more : List OptionValue) → AreBlocks l.rest more → Says l.payload (keep_all keep (kept_of l.self) more);
  tiled : (options : List OptionValue) → AreBlocks l.payload options → HasBlocks l.rest;
}

abbrev pub decreases-loop-rest : goal.decreases-loop-rest
decreases-loop-rest l = length l.rest
