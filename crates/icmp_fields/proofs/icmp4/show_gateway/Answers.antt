-- The address of the number's octets.
use Rattle.std.proofs.Common.{◌≡◌, ◌∙◌, ap, codes, decimal}
use Rattle.std.specs.List.{join_by}
use Rattle.wirebase.specs.ByteWriter.{be32}
use Rattle.wirebase.specs.Ipv4.{address_text, octets_of}
use Rattle.icmp_fields.proofs.Gateways.{address_joined}
use Rattle.icmp_fields.proofs.icmp4.show_gateway.Goals as goal

pub returns : goal.returns
unfolding be32
returns g c =
    let gateway = c.from_octets-gateway.result in
    let octets : octets_of gateway ≡ be32 c.args.octets = cc in
    let text : address_text gateway ≡ join_by decimal (codes ".") (be32 c.args.octets) =
    address_joined gateway ∙ ap (join_by decimal (codes ".")) octets in
    rw text at c.field.ensures
