-- The first part tells the type.
use Rattle.std.proofs.Common.{◌∙◌, ap, sym}
use Rattle.packet_stats.specs.Dhcp.{is_ack}
use Rattle.packet_stats.proofs.dhcp.is_ack.Goals as goal

pub returns-in-Some : goal.returns-in-Some
returns-in-Some c = c.is_ack_type.ensures ∙ sym (ap is_ack (sym c.of_kind.ensures ∙ c.in-Some.ensures.steps))

pub returns-in-None : goal.returns-in-None
returns-in-None c = sym (ap is_ack (sym c.of_kind.ensures ∙ c.in-None.ensures.steps.0))
