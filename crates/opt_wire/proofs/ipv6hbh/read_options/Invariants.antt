use Rattle.opt_wire.proofs.Words.{◌++◌, ◌≤◌, Ok, Tile, length, map, value_of}
use Rattle.opt_wire.proofs.ipv6hbh.read_options.Given as goal

abbrev pub invariant-loop-option : goal.invariant-loop-option
invariant-loop-option l = record {
  tile : Tile l.octets (map Ok (map value_of l.options.items) ++ l.option-iterator);
  few : length l.options.items ≤ 8;
}
