-- A message is of one type, or of none.
use Rattle.std.proofs.Common.{◌≡◌, refl, rules}
use Rattle.std.specs.Option.{option_map}
use Rattle.wirebase.specs.Bytes.{Reaches, number_of}
use Rattle.dhcp_wire.specs.Dhcpv4Packet.{magic_cookie, magic_field}
use Rattle.packet_pairs.specs.Exchange.{exchange_of}
use Rattle.packet_pairs.proofs.Found.{typed}
use Rattle.packet_pairs.proofs.lease.lease_in.Goals as goal

pub returns-in-Some : goal.returns-in-Some
returns-in-Some c =
    let whole : Reaches magic_field c.args.octets.now = search rules in
    let cookie : number_of magic_field c.args.octets.now ≡ magic_cookie = search rules in
    typed c.args.octets.now c.in-Some.kind whole cookie c.in-Some.ensures.some c.in-Some.ensures.only
    (option_map exchange_of c.typed_in.result) c.typed_in.ensures

pub returns-in-None : goal.returns-in-None
returns-in-None c e h = c.in-None.ensures.none refl h.kind h.typed
