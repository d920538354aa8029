-- None of the first datagrams has the key.
use Rattle.std.proofs.Common.{map, take}
use Rattle.reassembly.specs.Partial.{partial_of}
use Rattle.reassembly.specs.Reassembly.{IsUnknown}
use Rattle.reassembly.proofs.reassembly.find.Given as goal

abbrev pub invariant-loop-i : goal.invariant-loop-i
invariant-loop-i l = IsUnknown l.key (map partial_of (take l.i l.datagrams))
