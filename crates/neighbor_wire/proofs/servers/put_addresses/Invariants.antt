use Rattle.std.proofs.Common.{◌≡◌, ◌*◌, ◌≤◌, length, drop}
use Rattle.std.specs.Prelude.{map}
use Rattle.wirebase.specs.ByteWriter.{sheet, free, put_all, the_slice}
use Rattle.wirebase.specs.Ipv6Address.{octets_of}
use Rattle.neighbor_wire.proofs.servers.put_addresses.Given as goal

-- writing the rest gives the result of writing the whole
abbrev pub invariant-loop-address : goal.invariant-loop-address
invariant-loop-address l = record {
  texts : put_all (sheet l.w) (map octets_of (drop l.address-index l.addresses))
      ≡ put_all (sheet l.initial.w) (map octets_of l.addresses);
  room : 16 * length (drop l.address-index l.addresses) ≤ length (free l.w);
  same_slice : the_slice l.w ≡ the_slice l.initial.w;
}
