-- The room is full.
use Rattle.std.proofs.Common.{◌≡◌, arith, length, refl}
use Rattle.dhcp_options.specs.Joined.{joined}
use Rattle.message_brief.proofs.Rooms.{octet_joined}
use Rattle.message_brief.proofs.dhcp.octet_in.Goals as goal

pub returns-in-Ok-eq1 : goal.returns-in-Ok-eq1
returns-in-Ok-eq1 c =
    let len : length (joined c.args.kind c.args.parts.now) ≡ 1 =
    omega (arith, c.in-Ok-eq1.ensures.len, c.in-Ok-eq1.field-0-is) in
    octet_joined _ _ _ refl len c.in-Ok-eq1.ensures.joins
