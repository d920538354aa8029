-- Each service has its own questions.
use Rattle.std.specs.Option.{option_map}
use Rattle.frame_wire.specs.UdpCaptured.{captured_of}
use Rattle.packet_pairs.specs.Exchange.{exchange_of}
use Rattle.packet_pairs.specs.Message.{way_in}
use Rattle.packet_pairs.proofs.Found.{of_name}
use Rattle.packet_pairs.proofs.exchange.service_in.Goals as goal

pub returns-in-Dhcp : goal.returns-in-Dhcp
returns-in-Dhcp c = rw c.in-Dhcp.is c.lease_in.ensures

pub returns-in-Nbns : goal.returns-in-Nbns
returns-in-Nbns c = rw c.in-Nbns.is c.netbios_in.ensures

pub returns-in_default : goal.returns-in_default
returns-in_default c =
    of_name c.args.service (way_in c.args.addresses (captured_of c.args.datagram.now)) c.args.datagram.now.payload.now
    (option_map exchange_of c.name_in.result) c.in_default.not-Dhcp c.in_default.not-Nbns c.name_in.ensures
