use Rattle.icmp4_wire.proofs.Words.{◌∙◌, rules}
use Rattle.icmp4_wire.specs.Igmp.{view_octets}
use Rattle.icmp4_wire.proofs.IgmpGrammar.{unread_group}
use Rattle.icmp4_wire.proofs.igmp.refusal.why.Goals as goal

pub returns-in_default : goal.returns-in_default
returns-in_default c =
    unread_group (view_octets c.args.packet.now) c.group_addr.result c.requires (search rules)
    (λ t e. c.in_default.not-Unknown t (c.msg_type.ensures ∙ e)) c.group_addr.ensures
