-- The number of the digits so far, and the digits that are left.
use Rattle.std.proofs.Common.{◌≡◌, ◌≤◌, drop}
use Rattle.dump_lines.specs.Words.{number_behind, packet_offset, offset_of}
use Rattle.dump_lines.proofs.words.read_offset.Given as goal

abbrev pub invariant-loop-octet : goal.invariant-loop-octet
invariant-loop-octet l = record {
  so_far : offset_of l.text ≡ packet_offset (number_behind l.offset (drop l.octet-index l.text));
  small : l.offset ≤ 65535;
}
