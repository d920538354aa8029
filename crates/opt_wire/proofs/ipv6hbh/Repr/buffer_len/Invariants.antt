use Rattle.opt_wire.proofs.Words.{◌*◌, ◌≡◌, ◌≤◌, map, take, value_of}
use Rattle.opt_wire.specs.Ipv6Hbh.{text_len}
use Rattle.opt_wire.proofs.ipv6hbh.Repr.buffer_len.Given as goal

abbrev pub invariant-loop-option : goal.invariant-loop-option
invariant-loop-option l = record {
  so_far : l.len ≡ text_len (map value_of (take l.option-index l.options));
  small : l.len ≤ 257 * l.option-index;
}
