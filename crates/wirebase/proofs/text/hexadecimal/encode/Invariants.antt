-- The digits so far, and those of the octets that are left.
use Rattle.wirebase.proofs.Words.{◌≡◌, ◌*◌, ◌++◌, drop, encode_lower, take}
use Rattle.wirebase.proofs.text.hexadecimal.encode.Given as goal

abbrev pub invariant-octets : goal.invariant-octets
invariant-octets l = take (2 * l.i) l.digits ++ encode_lower (drop l.i l.octets) ≡ encode_lower l.octets
