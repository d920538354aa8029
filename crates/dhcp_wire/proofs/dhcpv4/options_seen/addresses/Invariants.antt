use Rattle.dhcp_wire.proofs.Words.{◌++◌, ◌-◌, ◌≡◌, ◌≤◌, addresses_in, length, take}
use Rattle.dhcp_wire.proofs.dhcpv4.options_seen.addresses.Given as goal

abbrev pub invariant-loop-rest : goal.invariant-loop-rest
invariant-loop-rest l = record {
  few : length l.addresses.items ≤ 5;
  kept : l.addresses.items ++ take (5 - length l.addresses.items) (addresses_in l.rest)
      ≡ take 5 (addresses_in l.data);
}

abbrev pub decreases-loop-rest : goal.decreases-loop-rest
decreases-loop-rest l = length l.rest
