use Rattle.dns_wire.proofs.Words.{[], refl, rules, take_rest}
use Rattle.dns_wire.proofs.DnsSplit.{left_label, split_pointer, split_end}
use Rattle.dns_wire.proofs.dns.part.read_part.Goals.{in-Pointer, in-End}
use Rattle.dns_wire.proofs.dns.part.read_part.Goals as goal

pub loop-rest-init : goal.loop-rest-init
loop-rest-init c = ([], record { rest = c.args.text.now; each = tt; whole = refl }, refl)

pub loop-rest-preserved : goal.loop-rest-preserved
loop-rest-preserved c =
    left_label c.args.text.now c.loop-rest.left.now _ c.in-Label.rest.now c.loop-rest.invariant c.in-Label.ensures

pub returns-clause-sound : goal.returns-clause-sound
returns-clause-sound c =
    let text = c.args.text.now in
    let left = c.loop-rest.left.now in
    elim c.match-read_front.branch [
      | in-Pointer w ↦ split_pointer text left _ c.loop-rest.invariant w.in-Pointer.ensures _ _
          (search (rules, take_rest left 2)) (search rules)
      | in-End w ↦ split_end text left c.loop-rest.invariant w.in-End.ensures _ _ (search (rules, take_rest left 1))
          (search rules)
    ]

pub returns-in-Torn-clause-told : goal.returns-in-Torn-clause-told
returns-in-Torn-clause-told c =
    let i = c.loop-rest.invariant in
    (i.0, i.1, rw i.2 c.why_torn.ensures)
