-- The header of a fragment is read.
use Rattle.frame_wire.proofs.Words.{arith, common_steps, refl, rules}
use Rattle.frame_wire.proofs.datagram.told_of_fragment.Goals as goal

pub returns : goal.returns
returns c = record {
  whole = first_of (search rules, omega arith);
  no_atomic = c.requires;
  addresses = refl;
  protocol = first_of (search rules, grind (arith, common_steps));
  ident = first_of (search rules, grind (arith, common_steps));
  frag_offset = first_of (search rules, grind (arith, common_steps));
  more_frags = first_of (search rules, grind (arith, common_steps));
}
