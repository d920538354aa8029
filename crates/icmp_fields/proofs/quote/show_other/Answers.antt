-- The protocol, where it is another.
use Rattle.icmp_fields.proofs.quote.show_other.Goals as goal

pub returns-in-Some : goal.returns-in-Some
returns-in-Some g c = rw c.in-Some.is c.show_protocol.ensures
