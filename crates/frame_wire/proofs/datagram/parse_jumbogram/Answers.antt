-- A jumbogram is read up to its end.
use Rattle.frame_wire.proofs.Words.{◌+◌, ◌≤◌, arith, length, refl, subst}
use Rattle.frame_wire.specs.Datagram.{IsHeaded6, short, value_of}
use Rattle.frame_wire.proofs.Ends.{refuses_whole}
use Rattle.frame_wire.proofs.Tags.{if_err, if_ok}
use Rattle.frame_wire.proofs.datagram.parse_jumbogram.Goals as goal

pub endless_v6-requires-clause-endless : goal.endless_v6-requires-clause-endless
endless_v6-requires-clause-endless c = c.in_default.ensures.endless refl

pub returns-then-octets-len-clause-refuses : goal.returns-then-octets-len-clause-refuses
returns-then-octets-len-clause-refuses c =
    (c.requires, short (40 + c.in-Some.len) c.in-Some.ensures.ends (omega arith), c.head_v6.ensures)

pub returns-clause-sound : goal.returns-clause-sound
returns-clause-sound c =
    let octets = c.args.octets.now in
    if_ok _ _ c.read_v6.result
    (λ d is. record {
      header = c.requires;
      end = 40 + c.in-Some.len;
      ends = c.in-Some.ensures.ends;
      total = omega arith;
      headed = subst (λ l. IsHeaded6 octets l (value_of d)) c.behind_v6.ensures is;
    })
    c.read_v6.ensures.sound

pub returns-clause-refuses : goal.returns-clause-refuses
returns-clause-refuses c =
    let octets = c.args.octets.now in
    let room : 40 + c.in-Some.len ≤ length octets = omega arith in
    if_err _ _ c.read_v6.result
    (λ r is. refuses_whole octets c.behind_v6.result.now (40 + c.in-Some.len) r c.requires c.in-Some.ensures.ends room
    c.behind_v6.ensures is)
    c.read_v6.ensures.refuses
