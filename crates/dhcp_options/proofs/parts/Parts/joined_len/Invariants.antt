use Rattle.dhcp_options.proofs.Words.{◌+◌, ◌<◌, ◌≡◌, joined, length}
use Rattle.dhcp_options.specs.Joined.{together}
use Rattle.dhcp_options.proofs.parts.Parts.joined_len.Given as goal

abbrev pub invariant-loop-octets : goal.invariant-loop-octets
invariant-loop-octets l = record {
  counted : l.len + length (together l.octets-iterator) ≡ length (joined l.kind l.self);
  fits : length (joined l.kind l.self) < 18446744073709551616;
}
