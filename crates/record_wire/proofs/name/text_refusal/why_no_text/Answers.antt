use Rattle.record_wire.proofs.Words.{◌≤◌, ◌+◌, ◌++◌, ◌∙◌, ap, arith, length, subst, sym, written}
use Rattle.record_wire.proofs.NameLabels.{one_more, end_behind, label_behind, spelled_shorter}
use Rattle.record_wire.proofs.TextRefusals.{label_refused, no_room, no_name}
use Rattle.record_wire.proofs.name.text_refusal.why_no_text.Goals as goal

pub returns-in_default : goal.returns-in_default
returns-in_default c =
    label_refused c.args.text.now c.loop-label.octets.items c.loop-label.left.now _ c.loop-label.invariant
    c.requires.root c.why_no_label.ensures

pub returns-in_default-push_label : goal.returns-in_default-push_label
returns-in_default-push_label c =
    let octets = c.loop-label.octets.items in
    let label = c.in-Ok.label.items in
    let full : length octets + length (written label) ≤ 255 → ⊥ = λ fits.
    let ok = c.in_default-push_label.ensures.room.1
    (subst (λ l. length octets + length (written l) ≤ 255) (sym c.as_slice.ensures.value) fits) in
    absurd (cc ok) in
    no_room c.args.text.now octets c.loop-label.left.now label c.in-Ok.rest.now c.loop-label.invariant
    c.in-Ok.ensures.sound.spells (omega (arith, full))

pub returns-in-End : goal.returns-in-End
returns-in-End c =
    no_name c.args.text.now c.loop-label.octets.items c.loop-label.left.now c.in-Ok.label.items c.in-Ok.rest.now
    c.loop-label.invariant (c.in-Ok.ensures.some, c.in-Ok.ensures.few) c.in-Ok.ensures.sound.spells
    (end_behind c.in-Ok.rest.now (sym c.in-End.ensures)) c.requires.none

pub loop-label-smaller : goal.loop-label-smaller
loop-label-smaller c =
    let dot = label_behind c.in-Ok.rest.now c.in-Label.next.now (sym c.in-Label.ensures) in
    let shorter = spelled_shorter c.in-Ok.label.items c.loop-label.left.now c.in-Ok.rest.now
    c.in-Ok.ensures.sound.spells in
    omega (arith, ap length dot.0, shorter)

pub loop-label-preserved : goal.loop-label-preserved
loop-label-preserved c =
    let dot = label_behind c.in-Ok.rest.now c.in-Label.next.now (sym c.in-Label.ensures) in
    one_more c.args.text.now c.loop-label.octets.items c.loop-label.left.now c.in-Ok.label.items c.in-Ok.rest.now
    c.in-Label.next.now c.push_label.new.octets.items c.loop-label.invariant
    (c.in-Ok.ensures.some, c.in-Ok.ensures.few) c.in-Ok.ensures.sound.spells dot.0 dot.1
    (c.in-Ok-push_label.ensures.pushes
    ∙ ap (λ l. c.loop-label.octets.items ++ written l) c.as_slice.ensures.value)
