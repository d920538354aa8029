-- The refusal of the reader.
use Rattle.message_fields.specs.Icmp.IgmpTold.{refused}
use Rattle.message_fields.proofs.icmp.why_igmp.Goals as goal

pub returns-in-Some : goal.returns-in-Some
returns-in-Some c =
    refused c.in-Some.refusal (rw c.new_unchecked.ensures at c.in-Some.ensures.told) c.unless_version_3.ensures
