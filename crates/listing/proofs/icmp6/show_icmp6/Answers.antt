-- The addresses are those of these octets.
use Rattle.listing.proofs.Words.{IsListingOrRefused}
use Rattle.wirebase.specs.Capabilities.{all_of}
use Rattle.icmp6_wire.specs.Icmpv6.{IsMessage}
use Rattle.listing.specs.ListingIcmp6.{Icmp6Prints, icmp6_listing}
use Rattle.packet_fields.proofs.Printing.{gained_as}
use Rattle.listing.proofs.icmp6.show_icmp6.Goals as goal
use Rattle.wirebase.specs.declared.capabilities.Checksum.{Checksum}

pub returns : goal.returns
returns g c =
    let from = c.from_octets-source.result in
    let to = c.from_octets-destination.result in
    let packet = c.args.packet.now in
    gained_as (IsListingOrRefused (IsMessage (all_of Checksum.Both) from to packet) icmp6_listing)
    (Icmp6Prints c.args.source c.args.destination packet) _ _ _
    (λ text is. (from, to, c.from_octets-source.ensures.value, c.from_octets-destination.ensures.value, is))
    c.show_packet.ensures
