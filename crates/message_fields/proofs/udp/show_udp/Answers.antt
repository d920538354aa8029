-- What the datagram holds, or why it is refused.
use Rattle.frame_wire.specs.UdpCaptured.{captured_of}
use Rattle.message_fields.specs.Udp.{DatagramIs, UdpIs, opened, unopened}
use Rattle.std.proofs.Common.{Some, refl}
use Rattle.message_fields.specs.Udp.{unopened_items}
use Rattle.message_fields.specs.declared.refusal.Refusal.TheVariants.{Udp}
use Rattle.message_fields.proofs.Told.{told_as, told_known}
use Rattle.message_fields.proofs.udp.show_udp.Goals as goal

pub returns-in-Ok : goal.returns-in-Ok
returns-in-Ok g c =
    let datagram = captured_of c.in-Ok.datagram in
    told_as _ _ _ _ (DatagramIs c.args.tells_cut c.args.service datagram)
    (UdpIs c.args.tells_cut c.args.service c.args.octets.now)
    (λ items told are. opened datagram c.in-Ok.ensures.sound are) c.show_datagram.ensures

pub returns-in-Err : goal.returns-in-Err
returns-in-Err g c =
    let refusal = Udp c.in-Err.refusal in
    let octets = c.args.octets.now in
    told_known _ _ _ _ (UdpIs c.args.tells_cut c.args.service octets) (unopened_items refusal octets) (Some refusal)
    (λ told known. unopened c.in-Err.refusal c.in-Err.ensures.refuses refl known) c.show_unopened.ensures
