-- What its object names, or why it is refused.
use Rattle.icmp_fields.proofs.Structures.{header_right, header_wrong}
use Rattle.icmp_fields.proofs.extended_echo.interface.show_structure.Goals as goal

pub returns-in-Some : goal.returns-in-Some
returns-in-Some g c =
    rw (header_wrong c.args.is_whole _ _ c.in-Some.ensures) c.show_unread.ensures

pub returns-in-None : goal.returns-in-None
returns-in-None g c =
    rw (header_right c.args.is_whole _ c.in-None.ensures) c.show_inside.ensures
