use Rattle.std.proofs.Common.{◌≡◌, ◌*◌, ◌≤◌, length, drop}
use Rattle.std.specs.Prelude.{map}
use Rattle.wirebase.specs.ByteWriter.{sheet, free, put_all, the_slice}
use Rattle.group_wire.specs.Family.{width}
use Rattle.group_wire.proofs.sources.put_addresses.Given as goal

-- writing the rest gives the result of writing the whole
abbrev pub invariant-loop-address : goal.invariant-loop-address
invariant-loop-address g l = record {
  texts : put_all (sheet l.w) (map g.A.Address.bytes (drop l.address-index l.addresses))
      ≡ put_all (sheet l.initial.w) (map g.A.Address.bytes l.addresses);
  room : width g.A.Address.family * length (drop l.address-index l.addresses) ≤ length (free l.w);
  same_slice : the_slice l.w ≡ the_slice l.initial.w;
}
