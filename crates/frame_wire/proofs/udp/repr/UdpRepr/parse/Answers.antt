-- What was read is written, and read again.
use Rattle.frame_wire.proofs.Words.{UdpRepr, bytes_of, format, payload_field, refl, view_octets}
use Rattle.wirebase.proofs.Format.{all_rewrites}
use Rattle.frame_wire.specs.UdpText.{value_of}
use Rattle.frame_wire.proofs.Tags.{if_ok}
use Rattle.frame_wire.proofs.UdpFormat.{udp_format}
use Rattle.frame_wire.proofs.udp.repr.UdpRepr.parse.Goals as goal

pub returns-clause-rewrites : goal.returns-clause-rewrites
returns-clause-rewrites c =
    let bytes = view_octets c.args.packet.now in
    all_rewrites (format c.args.checksum_caps.now c.args.addresses.now)
    (udp_format c.args.checksum_caps.now c.args.addresses.now)
    (λ (r : UdpRepr). value_of r (bytes_of (payload_field bytes) bytes)) bytes c.read.result c.are_bytes.ensures
    (if_ok _ _ c.read.result (λ r is. record { datagram = is; payload = refl }) c.read.ensures.sound)
