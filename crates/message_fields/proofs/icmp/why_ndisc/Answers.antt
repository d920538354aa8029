-- The refusal of the reader.
use Rattle.std.proofs.Common.{refl}
use Rattle.message_fields.specs.Icmp.NdiscTold.{refused}
use Rattle.message_fields.proofs.icmp.why_ndisc.Goals as goal

pub returns-in-Some : goal.returns-in-Some
returns-in-Some c = refused c.in-Some.refusal (rw c.ignored-checksums.ensures at c.in-Some.ensures.told) refl
