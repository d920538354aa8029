-- The object, or why there is none.
use Rattle.icmp_fields.proofs.Structures.{inside_printed, object_fits, object_wrong}
use Rattle.icmp_fields.proofs.extended_echo.interface.show_inside.Goals as goal

pub show_named_or_refused-requires : goal.show_named_or_refused-requires
show_named_or_refused-requires g c =
    object_fits _ _ _ c.requires (rw c.split_at.ensures.back at c.in-Ok.ensures.sound)

pub returns-in-Ok : goal.returns-in-Ok
returns-in-Ok g c =
    let is = rw c.split_at.ensures.back at c.in-Ok.ensures.sound in
    inside_printed _ _ _ _ _ _ _ is c.show_named_or_refused.ensures

pub returns-in-Err : goal.returns-in-Err
returns-in-Err g c =
    let why = rw c.split_at.ensures.back at c.in-Err.ensures.told in
    rw (object_wrong _ _ why) c.show_unread.ensures
