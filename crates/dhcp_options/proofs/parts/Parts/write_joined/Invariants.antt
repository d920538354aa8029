use Rattle.dhcp_options.proofs.Words.{◌≡◌, ◌≤◌, length, octets_of}
use Rattle.wirebase.specs.ByteWriter.{free, put_all, sheet, the_slice}
use Rattle.dhcp_options.specs.Joined.{together}
use Rattle.dhcp_options.proofs.parts.Parts.write_joined.Given as goal

-- writing the rest gives what writing all gives
abbrev pub invariant-loop-octets : goal.invariant-loop-octets
invariant-loop-octets l = record {
  same : put_all (sheet l.w) l.octets-iterator ≡ put_all (sheet l.initial.w) (octets_of l.kind l.self);
  room : length (together l.octets-iterator) ≤ length (free l.w);
  same_slice : the_slice l.w ≡ the_slice l.initial.w;
}
