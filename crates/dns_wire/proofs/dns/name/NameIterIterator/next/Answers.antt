use Rattle.dns_wire.proofs.Words.{◌≡◌, ◌+◌, [], ◌∙◌, Err, Ok, Some, ahead_of, arith, at_fault, refl, sym}
use Rattle.dns_wire.proofs.DnsNameTurns.{ahead_label, ahead_pointer, ahead_far, ahead_stop, ahead_torn, ahead_ended}
use Rattle.dns_wire.proofs.DnsNameTurns.{Points-length, Points-front, parts_length}
use Rattle.dns_wire.proofs.DnsNameGiving.{gives_item, gives_end, progress_given}
use Rattle.dns_wire.proofs.dns.name.NameIterIterator.next.Goals.{in-Pointer+in_default, in-Torn}
use Rattle.dns_wire.proofs.dns.name.NameIterIterator.next.Goals as goal

pub returns-in-Label-clause-steps : goal.returns-in-Label-clause-steps
returns-in-Label-clause-steps c =
    let it = c.loop-label.self-inside in
    let n = it.steps + 1 in
    let first = ahead_label it.steps it.left.now it.reach.now c.in-Label.label.now c.in-Label.rest.now
    c.args.self.now.ahead c.in-Label.ensures c.loop-label.invariant.same in
    gives_item c.args.self.now (Some (Ok c.in-Label.label)) n (ahead_of n c.in-Label.rest.now it.reach.now) first refl

pub returns-in-Label-clause-goes : goal.returns-in-Label-clause-goes
returns-in-Label-clause-goes c =
    progress_given c.args.self.now _ (Ok c.in-Label.label) (returns-in-Label-clause-steps c)

pub loop-label-preserved : goal.loop-label-preserved
loop-label-preserved c =
    let it = c.loop-label.self-inside in
    let target = c.in-Pointer.target in
    let leads = c.in-Some.ensures.some in
    let two = Points-length it.left.now target (Points-front it.left.now target (sym c.in-Pointer.ensures)) in
    let same = ahead_pointer it.steps it.left.now it.reach.now target c.args.self.now.ahead c.in-Pointer.ensures
    leads.inside c.loop-label.invariant.same in
    rw (leads.left_is, leads.front_is) (record {
      same = same;
      room = omega (arith, two, parts_length target it.reach.now leads.inside, c.loop-label.invariant.room);
    })

pub returns-in-End-clause-steps : goal.returns-in-End-clause-steps
returns-in-End-clause-steps c =
    let it = c.loop-label.self-inside in
    let stands = ahead_stop it.steps it.left.now it.reach.now _ c.in-End.ensures refl in
    gives_end c.args.self.now it.steps (ahead_of it.steps it.left.now it.reach.now)
    (sym c.loop-label.invariant.same ∙ stands) stands

pub returns-clause-steps : goal.returns-clause-steps
returns-clause-steps c =
    let it = c.loop-label.self-inside in
    let old = c.args.self.now in
    let same = c.loop-label.invariant.same in
    let faults : old.ahead ≡ at_fault it.steps =
    elim c.match-read_front.branch [
      | in-Pointer+in_default w ↦
          ahead_far it.steps it.left.now it.reach.now w.in-Pointer.target old.ahead w.in-Pointer.ensures
          (w.follow.ensures.none w.in_default.is) same
      | in-Torn w ↦ ahead_torn it.steps it.left.now it.reach.now old.ahead w.in-Torn.ensures same
    ] in
    rw (ahead_ended it.steps []) (gives_item old (Some (Err (record {}))) it.steps _ faults refl)

pub returns-clause-goes : goal.returns-clause-goes
returns-clause-goes c = progress_given c.args.self.now _ (Err (record {})) (returns-clause-steps c)
