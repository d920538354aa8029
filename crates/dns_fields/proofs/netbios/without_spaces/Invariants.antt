-- The bytes behind those that are left are spaces.
use Rattle.std.proofs.Common.{◌≡◌, ◌≤◌, length}
use Rattle.dns_fields.specs.Netbios.{len_without_spaces}
use Rattle.dns_fields.proofs.netbios.without_spaces.Given as goal

abbrev pub invariant-loop-len : goal.invariant-loop-len
invariant-loop-len l = record {
  within : l.len ≤ length l.bytes;
  same : len_without_spaces l.bytes l.len ≡ len_without_spaces l.bytes (length l.bytes);
}

abbrev pub decreases-loop-len : goal.decreases-loop-len
decreases-loop-len l = l.len
