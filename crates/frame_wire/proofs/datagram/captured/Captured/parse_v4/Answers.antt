-- A datagram that is cut lacks what its own length has more.
use Rattle.frame_wire.proofs.Words.{◌≡◌, arith, common_steps, cut, refl, rules, subst}
use Rattle.wirebase.specs.Ipv4.{total_len_in}
use Rattle.frame_wire.specs.Datagram.{Refuses4}
use Rattle.frame_wire.proofs.datagram.captured.Captured.parse_v4.Goals as goal
use Rattle.frame_wire.specs.declared.datagram.Refusal.{Refusal}

pub returns-in_ok-datagram-in-Err-Cut-clause-sound : goal.returns-in_ok-datagram-in-Err-Cut-clause-sound
returns-in_ok-datagram-in-Err-Cut-clause-sound c =
    let refused : Refuses4 c.args.octets.now (Refusal.Cut c.in-Err-Cut.head) =
    subst (λ r. Refuses4 c.args.octets.now r) c.in-Err-Cut.field-0-is c.in-Err-Cut.ensures.refuses in
    let total : c.total_len-total_len.result ≡ total_len_in c.args.octets.now =
    first_of (search rules, grind (arith, common_steps)) in
    cut _ refused.0 (omega (arith, total, refused.1)) (omega (arith, total, refused.1))
    c.in_ok-datagram-in-Err-Cut.ensures.sound refl
