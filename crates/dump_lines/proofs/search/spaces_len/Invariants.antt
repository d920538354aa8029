-- There are only spaces below the index.
use Rattle.std.proofs.Common.{◌≡◌, All, take}
use Rattle.dump_lines.proofs.search.spaces_len.Given as goal

abbrev pub invariant-loop-i : goal.invariant-loop-i
invariant-loop-i l = All (λ octet. octet ≡ 32) (take l.i l.octets)
