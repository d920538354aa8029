-- The room is full.
use Rattle.std.proofs.Common.{◌≡◌, arith, length, refl}
use Rattle.dhcp_options.specs.Joined.{joined}
use Rattle.message_brief.proofs.Rooms.{four_joined}
use Rattle.message_brief.proofs.dhcp.four_in.Goals as goal

pub returns-in-Ok-eq4 : goal.returns-in-Ok-eq4
returns-in-Ok-eq4 c =
    let len : length (joined c.args.kind c.args.parts.now) ≡ 4 =
    omega (arith, c.in-Ok-eq4.ensures.len, c.in-Ok-eq4.field-0-is) in
    four_joined _ _ _ refl len c.in-Ok-eq4.ensures.joins
