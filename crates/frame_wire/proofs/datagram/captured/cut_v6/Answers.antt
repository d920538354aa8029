-- A datagram that is cut lacks what its own length has more.
use Rattle.frame_wire.proofs.Words.{◌+◌, ◌≡◌, ap, arith, drop, IpProtocol, length, length-drop, refl, subst}
use Rattle.frame_wire.proofs.Words.{sym}
use Rattle.frame_wire.specs.Captured.{RefusesCaptured6, cut}
use Rattle.frame_wire.specs.Datagram.{IsHeaded6, value_of}
use Rattle.frame_wire.proofs.Ends.{cut_before, cut_torn, refuses_cut}
use Rattle.frame_wire.proofs.datagram.captured.cut_v6.Goals as goal

pub returns-in_default-clause-refuses : goal.returns-in_default-clause-refuses
returns-in_default-clause-refuses c = (
  c.requires.head,
  (
    IpProtocol.HopByHop,
    (
      c.requires.header,
      c.requires.cut,
      cut_torn c.args.octets.now c.requires.cut (c.in_default.ensures.endless refl),
    ),
  ),
)

pub overflow_sub-result : goal.overflow_sub-result
overflow_sub-result c =
    let octets = c.args.octets.now in
    let less = cut_before octets (40 + c.in-Some.len) c.requires.cut c.in-Some.ensures.ends in
    let behind : length c.behind-rest.result.now ≡ length (drop 40 octets) = ap length c.behind-rest.ensures in
    omega (arith, less, behind, length-drop 40 octets, c.requires.header.fixed)

pub returns-in-Ok-clause-sound : goal.returns-in-Ok-clause-sound
returns-in-Ok-clause-sound c =
    let octets = c.args.octets.now in
    let less = cut_before octets (40 + c.in-Some.len) c.requires.cut c.in-Some.ensures.ends in
    let behind : length c.behind-rest.result.now ≡ length (drop 40 octets) = ap length c.behind-rest.ensures in
    cut _ (40 + c.in-Some.len) c.requires.header c.in-Some.ensures.ends
    (omega (arith, less, behind, length-drop 40 octets, c.requires.header.fixed))
    (omega (arith, less, behind, length-drop 40 octets, c.requires.header.fixed))
    (subst (λ l. IsHeaded6 octets l (value_of c.in-Ok.datagram)) c.behind-rest.ensures c.in-Ok.ensures.sound) refl

pub returns-in-Err-clause-refuses : goal.returns-in-Err-clause-refuses
returns-in-Err-clause-refuses c =
    subst (λ r. RefusesCaptured6 c.args.octets.now r) (sym c.told_of_cut.ensures)
    (refuses_cut _ _ _ _ c.requires.header c.requires.cut c.requires.head c.behind-rest.ensures
    c.in-Err.ensures.refuses)
