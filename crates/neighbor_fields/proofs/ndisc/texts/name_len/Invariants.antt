-- The octets that were passed, and those up to the end of the name.
use Rattle.std.proofs.Common.{◌≡◌, ◌+◌, drop}
use Rattle.neighbor_fields.specs.NdiscTexts.{len_within, name_len}
use Rattle.neighbor_fields.proofs.ndisc.texts.name_len.Given as goal

abbrev pub invariant-loop-place : goal.invariant-loop-place
invariant-loop-place l = l.place + len_within l.left (drop l.place l.octets) ≡ name_len l.octets
