-- The octets that were passed, and those that are left with their bits.
use Rattle.std.proofs.Common.{◌≡◌, ◌++◌, drop, take}
use Rattle.neighbor_fields.specs.NdiscOptions.{masked}
use Rattle.neighbor_fields.proofs.ndisc.others.mask.Given as goal

abbrev pub invariant-loop-octet : goal.invariant-loop-octet
invariant-loop-octet l =
    take l.octet-index l.octets ++ masked l.left (drop l.octet-index l.octets) ≡ masked l.len l.initial.octets
