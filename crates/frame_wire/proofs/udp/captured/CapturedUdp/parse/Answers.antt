-- A datagram that is cut lacks what its own length has more.
use Rattle.frame_wire.proofs.Words.{arith, common_steps, refl, rules}
use Rattle.frame_wire.specs.UdpCaptured.{cut}
use Rattle.frame_wire.specs.UdpRefusal.{RefusesLen}
use Rattle.frame_wire.proofs.udp.captured.CapturedUdp.parse.Goals as goal
use Rattle.frame_wire.specs.declared.udp.Refusal.{Refusal}

pub returns-in-Some-Cut-clause-sound : goal.returns-in-Some-Cut-clause-sound
returns-in-Some-Cut-clause-sound c =
    let octets = c.args.octets.now in
    let refused : RefusesLen octets (Refusal.Cut c.in-Some-Cut.total) = first_of (
      search rules,
      grind (
        arith,
        common_steps,
      ),
    ) in
    cut _ (record { fixed = refused.0; order = first_of (search rules, grind (arith, common_steps)) })
    (omega (arith, refused.1, refused.3)) (omega (arith, refused.1, refused.3))
    (record {
      source = first_of (search rules, grind (arith, common_steps));
      destination = first_of (search rules, grind (arith, common_steps));
    }) c.behind.ensures refl
