use Rattle.dhcp_wire.proofs.Dhcpv4Laws.{dhcp_same_text}
use Rattle.dhcp_wire.proofs.dhcpv4.repr.Repr.same_text.Goals as goal

pub returns : goal.returns
returns c = dhcp_same_text _ _
