-- The key, and the name.
use Rattle.packet_fields.proofs.Printing.{gains_last}
unfoldable use Rattle.packet_fields.specs.Fields.{member}
use Rattle.packet_fields.proofs.field.show_name_member.Goals as goal

pub returns : goal.returns
unfolding member
returns g c = gains_last _ _ c.put_string.result c.in_ok-show_member_key.ensures c.put_string.ensures
