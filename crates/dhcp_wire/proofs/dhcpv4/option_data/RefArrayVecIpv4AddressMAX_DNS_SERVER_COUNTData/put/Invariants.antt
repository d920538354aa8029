use Rattle.dhcp_wire.proofs.Words.{◌*◌, ◌+◌, ◌≡◌, drop, flat_map, length, octets_of, put, sheet}
use Rattle.wirebase.specs.ByteWriter.{free, the_slice}
use Rattle.dhcp_wire.proofs.dhcpv4.option_data.RefArrayVecIpv4AddressMAX_DNS_SERVER_COUNTData.put.Given as goal

-- writing the rest gives the result of writing the whole
abbrev pub invariant-loop-address : goal.invariant-loop-address
invariant-loop-address l = record {
  texts : put (sheet l.w) (flat_map octets_of (drop l.address-index l.address-items))
      ≡ put (sheet l.initial.w) (flat_map octets_of l.address-items);
  room : length (free l.initial.w)
      ≡ length (free l.w) + 4 * l.address-index;
  same_slice : the_slice l.w ≡ the_slice l.initial.w;
}
