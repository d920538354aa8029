use Rattle.record_wire.proofs.Words.{◌≤◌, ◌+◌, ◌++◌, ◌∙◌, ap, arith, length, refl, subst, sym, written}
use Rattle.record_wire.proofs.NameLabels.{one_more, all_read, all_same, next_label, next_fits, next_goes, end_behind}
use Rattle.record_wire.proofs.NameLabels.{label_behind, spelled_shorter}
use Rattle.record_wire.proofs.name.text.put_labels.Goals as goal

pub returns-in_err-label-clause-complete : goal.returns-in_err-label-clause-complete
returns-in_err-label-clause-complete c = λ label labels is.
    let n = next_label c.args.text.now c.loop-label.octets.items c.loop-label.left.now label labels
    c.loop-label.invariant is in
    let ok = c.in_err-label.ensures.complete n.label n.rest (record { spells = n.spells; no_more = n.no_more }) n.one.0
    n.one.1 in
    absurd (cc ok)

pub returns-in_err-push_label-clause-complete : goal.returns-in_err-push_label-clause-complete
returns-in_err-push_label-clause-complete c = λ label labels is.
    let read = c.in_ok-label.ensures.sound in
    let fits = next_fits c.args.text.now c.loop-label.octets.items c.loop-label.left.now c.in_ok-label.label.items
    c.in_ok-label.rest.now label labels c.loop-label.invariant read.spells read.no_more is in
    let ok = c.in_err-push_label.ensures.room.1
    (subst (λ l. length c.loop-label.octets.items + length (written l) ≤ 255) (sym c.as_slice.ensures.value) fits) in
    absurd (cc ok)

pub loop-label-smaller : goal.loop-label-smaller
loop-label-smaller c =
    let dot = label_behind c.in_ok-label.rest.now c.in-Label.next.now (sym c.in-Label.ensures) in
    let shorter = spelled_shorter c.in_ok-label.label.items c.loop-label.left.now c.in_ok-label.rest.now
    c.in_ok-label.ensures.sound.spells in
    omega (arith, ap length dot.0, shorter)

pub loop-label-preserved : goal.loop-label-preserved
loop-label-preserved c =
    let dot = label_behind c.in_ok-label.rest.now c.in-Label.next.now (sym c.in-Label.ensures) in
    one_more c.args.text.now c.loop-label.octets.items c.loop-label.left.now c.in_ok-label.label.items
    c.in_ok-label.rest.now c.in-Label.next.now c.push_label.new.octets.items c.loop-label.invariant
    (c.in_ok-label.ensures.some, c.in_ok-label.ensures.few) c.in_ok-label.ensures.sound.spells dot.0 dot.1
    (c.in_ok-push_label.ensures.pushes
    ∙ ap (λ l. c.loop-label.octets.items ++ written l) c.as_slice.ensures.value)

pub returns-in-Other-clause-complete : goal.returns-in-Other-clause-complete
returns-in-Other-clause-complete c = λ label labels is.
    let read = c.in_ok-label.ensures.sound in
    absurd (next_goes c.args.text.now c.loop-label.octets.items c.loop-label.left.now c.in_ok-label.label.items
    c.in_ok-label.rest.now label labels c.loop-label.invariant read.spells read.no_more (sym c.in-Other.ensures) is)

pub returns-in-End-clause-sound : goal.returns-in-End-clause-sound
returns-in-End-clause-sound c =
    all_read c.args.text.now c.loop-label.octets.items c.loop-label.left.now c.in_ok-label.label.items
    c.in_ok-label.rest.now c.push_label.new.octets.items c.loop-label.invariant
    (c.in_ok-label.ensures.some, c.in_ok-label.ensures.few) c.in_ok-label.ensures.sound.spells
    (end_behind c.in_ok-label.rest.now (sym c.in-End.ensures))
    (c.in_ok-push_label.ensures.pushes
    ∙ ap (λ l. c.loop-label.octets.items ++ written l) c.as_slice.ensures.value)

pub returns-in-End-clause-complete : goal.returns-in-End-clause-complete
returns-in-End-clause-complete c = λ label labels is.
    let read = c.in_ok-label.ensures.sound in (
      refl,
      all_same c.args.text.now c.loop-label.octets.items c.loop-label.left.now c.in_ok-label.label.items
          c.in_ok-label.rest.now c.push_label.new.octets.items label labels c.loop-label.invariant read.spells
          read.no_more (sym c.in-End.ensures)
          (c.in_ok-push_label.ensures.pushes
          ∙ ap (λ l. c.loop-label.octets.items ++ written l) c.as_slice.ensures.value) is,
    )
