-- The bytes so far, and those of the letters that are left.
use Rattle.std.proofs.Common.{◌≡◌, ◌*◌, ◌++◌, drop, length, take}
use Rattle.dns_fields.specs.Netbios.{decoded}
use Rattle.dns_fields.proofs.netbios.decode.Given as goal

abbrev pub invariant-loop-i : goal.invariant-loop-i
invariant-loop-i l = record {
  long : length l.bytes ≡ 16;
  so_far : take l.i l.bytes ++ decoded (drop (2 * l.i) l.label) ≡ decoded l.label;
}
