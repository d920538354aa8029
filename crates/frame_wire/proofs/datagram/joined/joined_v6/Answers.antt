-- The headers in front of the payload are passed, and lead to it or to a fragment.
use Rattle.frame_wire.proofs.Words.{inl, refl}
use Rattle.frame_wire.proofs.Fragments.{refuses_joined}
use Rattle.frame_wire.proofs.Tags.{told, told_not}
use Rattle.frame_wire.proofs.datagram.joined.joined_v6.Goals as goal

pub returns-then-is_fragment-clause-refuses : goal.returns-then-is_fragment-clause-refuses
returns-then-is_fragment-clause-refuses c =
    refuses_joined _ _ _ _ c.in-Ok.upper.dst_addr _ _ c.told_of_fragment.result
    (told _ c.is_fragment.ensures c.if-is_fragment.true) c.in-Ok.ensures.passes c.told_of_fragment.ensures

pub returns-clause-sound : goal.returns-clause-sound
returns-clause-sound c = record {
  final = c.in-Ok.upper.dst_addr;
  bare = record { hop_limit = refl; hop_by_hop = refl };
  addresses = refl;
  passes = c.in-Ok.ensures.passes;
  passed = λ is. c.in-Ok.ensures.passed (inl is);
  unfragmented = told_not _ c.is_fragment.ensures c.if-is_fragment.false;
}
