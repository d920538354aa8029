-- The octets so far stand as they are.
use Rattle.std.proofs.Common.{◌≡◌, take}
use Rattle.json.specs.Print.{escape}
use Rattle.packet_fields.proofs.escapes.plain_len.Given as goal

abbrev pub invariant-loop-place : goal.invariant-loop-place
invariant-loop-place l = escape (take l.place l.text) ≡ take l.place l.text
