-- The fixed header is read.
use Rattle.frame_wire.proofs.Words.{arith, common_steps, refl, rules}
use Rattle.frame_wire.proofs.datagram.head_v6.Goals as goal

pub returns : goal.returns
returns c = record {
  source = c.src_addr.result;
  destination = c.dst_addr.result;
  source_is = first_of (search rules, grind (arith, common_steps));
  destination_is = first_of (search rules, grind (arith, common_steps));
  addresses = refl;
  protocol = first_of (search rules, grind (arith, common_steps));
  ident = refl;
  frag_offset = refl;
  more_frags = refl;
}
