-- The fields, and then why the group is none.
use Rattle.std.proofs.Common.{refl}
use Rattle.packet_fields.proofs.Fields.{◌and◌}
use Rattle.message_fields.proofs.icmp.show_igmp.Goals as goal

pub returns : goal.returns
returns g c = (
  _,
  (
    c.why_igmp-why.result,
    c.why_igmp-why.ensures,
    refl,
    rw (c.refusal_of.ensures, c.in_ok-lack.ensures.lack) at c.or.ensures,
  ),
  c.in_ok-lack.ensures.prints and c.in_ok-show_group.ensures,
)
