-- The phrase, and then the octets.
use Rattle.std.proofs.Common.{refl}
use Rattle.packet_fields.proofs.Fields.{◌and◌}
use Rattle.message_fields.proofs.udp.show_unopened.Goals as goal

pub returns : goal.returns
returns g c = (c.in_ok-show_refused.ensures and c.in_ok-field.ensures, refl)
