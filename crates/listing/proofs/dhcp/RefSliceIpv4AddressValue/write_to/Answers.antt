-- The first address, and each turn a comma and one address more.
use Rattle.listing.proofs.Words.{◌-◌, Ipv4Address, arith, drop, length, take, take_all}
use Rattle.listing.proofs.Addresses.{with_comma, addresses_text-some}
use Rattle.packet_fields.proofs.Printing.{◌then◌, gained, gains_both, one_more}
use Rattle.listing.proofs.dhcp.RefSliceIpv4AddressValue.write_to.Goals as goal

abbrev no_address : Ipv4Address
no_address = record { a = 0; b = 0; c = 0; d = 0 }

pub loop-address-preserved : goal.loop-address-preserved
loop-address-preserved g c =
    let rest = take (length c.args.self.now - 1) (drop 1 c.args.self.now) in
    rw (one_more with_comma rest c.loop-address.address-index no_address c.loop-address-test.true)
    (gains_both _ _ _ _ _ c.loop-address.invariant
    (gained _ _ _ c.in_ok-write_all.ensures.bytes then c.in_ok-write_to-2.ensures))

pub returns : goal.returns
returns g c =
    let rest = take (length c.args.self.now - 1) (drop 1 c.args.self.now) in
    let all = take_all c.loop-address.address-index rest (omega (arith, c.loop-address-test.false)) in
    rw (addresses_text-some c.args.self.now no_address c.in-len1-up.len_at_least)
    (gains_both _ _ _ _ _ c.in_ok-write_to.ensures (rw all at c.loop-address.invariant))
