-- Where none is found, there are spaces alone below the index.
use Rattle.std.proofs.Common.{◌≡◌, All, false, take}
use Rattle.dump_lines.proofs.search.has_other.Given as goal

abbrev pub invariant-loop-octet : goal.invariant-loop-octet
invariant-loop-octet l = l.found ≡ false → All (λ octet. octet ≡ 32) (take l.octet-index l.octets)
