-- The octets that are left tell the same as all, and what is there of a name leaves room for its empty label.
use Rattle.std.proofs.Common.{◌≡◌, ◌≤◌, drop}
use Rattle.neighbor_fields.specs.NdiscTexts.{wrong_names, wrong_within}
use Rattle.neighbor_fields.proofs.ndisc.texts.wrong_names.Given as goal

abbrev pub invariant-loop-place : goal.invariant-loop-place
invariant-loop-place l =
    (l.taken ≤ 254) × (wrong_within l.taken l.left (drop l.place l.octets) ≡ wrong_names l.octets)
