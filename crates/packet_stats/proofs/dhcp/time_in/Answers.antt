-- The first part tells the time.
use Rattle.std.proofs.Common.{◌∙◌, ap, sym}
use Rattle.packet_stats.specs.Dhcp.{time_in}
use Rattle.packet_stats.proofs.dhcp.time_in.Goals as goal

pub returns-in-Some : goal.returns-in-Some
returns-in-Some c = c.seconds_in.ensures ∙ sym (ap time_in (sym c.of_kind.ensures ∙ c.in-Some.ensures.steps))

pub returns-in-None : goal.returns-in-None
returns-in-None c = sym (ap time_in (sym c.of_kind.ensures ∙ c.in-None.ensures.steps.0))
