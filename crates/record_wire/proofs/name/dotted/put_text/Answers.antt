-- Each turn puts a label, or goes on where a pointer leads.
use Rattle.record_wire.proofs.Words.{arith, refl, take_more_set}
use Rattle.record_wire.proofs.NameDottedTurns.{nothing_put, label_put, pointer_put, behind_length, none_of, no_room}
use Rattle.record_wire.proofs.NameDottedTurns.{leads_nowhere, leads_on, is_torn, is_root, is_unusual, is_text}
use Rattle.record_wire.proofs.name.dotted.put_text.Goals as goal

pub loop-label-init : goal.loop-label-init
loop-label-init c = nothing_put c.args.bytes.now c.args.message.now c.args.room.now c.told-room

pub put_label-requires-clause-ahead : goal.put_label-requires-clause-ahead
put_label-requires-clause-ahead c =
    behind_length c.loop-label.left.now c.in-Label.label.now c.in-Label.rest.now c.in-Label.ensures

pub returns-in_default-clause-some : goal.returns-in_default-clause-some
returns-in_default-clause-some c =
    none_of c.args.bytes.now c.args.message.now
    (no_room _ _ _ _ _ c.in-Label.label.now c.in-Label.rest.now _ _ _ c.loop-label.invariant c.in-Label.ensures
    (λ fits. let some = c.in_default.ensures.some.1 fits in cc some))

pub loop-label-preserved-in-Label : goal.loop-label-preserved-in-Label
loop-label-preserved-in-Label c =
    label_put c.args.bytes.now c.args.message.now c.loop-label.left.now c.loop-label.reach.now c.loop-label.room
    c.put_label.new.room c.in-Label.label.now c.in-Label.rest.now c.loop-label.at c.loop-label.dots
    c.loop-label.pointers c.in-Some.end c.loop-label.invariant c.in-Label.ensures c.put_label.array_long
    (c.in-Some.ensures.some.0 refl) c.in-Some.ensures.end c.in-Some.ensures.text

pub returns-in_default-follow-clause-some : goal.returns-in_default-follow-clause-some
returns-in_default-follow-clause-some c =
    none_of c.args.bytes.now c.args.message.now
    (leads_nowhere _ _ _ _ _ _ _ _ c.in-Pointer.target c.loop-label.invariant c.in-Pointer.ensures
    (c.in_default-follow.ensures.none refl))

pub returns-then-pointers-eq-MAX_POINTERS-clause-some : goal.returns-then-pointers-eq-MAX_POINTERS-clause-some
returns-then-pointers-eq-MAX_POINTERS-clause-some c =
    none_of c.args.bytes.now c.args.message.now
    (leads_on _ _ _ _ _ _ _ _ c.in-Pointer.target c.loop-label.invariant c.in-Pointer.ensures
    c.in-Some-follow.ensures.some.inside c.if-pointers-eq-MAX_POINTERS.true)

pub loop-label-preserved : goal.loop-label-preserved
loop-label-preserved c =
    let leads = c.in-Some-follow.ensures.some in
    pointer_put c.args.bytes.now c.args.message.now c.loop-label.left.now c.loop-label.reach.now c.loop-label.room
    c.loop-label.at c.loop-label.dots c.loop-label.pointers c.in-Pointer.target c.in-Some-follow.next.now
    c.in-Some-follow.open.now c.loop-label.invariant c.in-Pointer.ensures leads.inside leads.left_is leads.front_is
    (omega (arith, c.loop-label.invariant.follows, c.if-pointers-eq-MAX_POINTERS.false))

pub returns-then-at-eq0-clause-some : goal.returns-then-at-eq0-clause-some
returns-then-at-eq0-clause-some c =
    let is = is_root _ _ _ _ _ _ _ _ c.loop-label.invariant c.in-End.ensures _ c.if-at-eq0.true
    (take_more_set c.loop-label.room 0 46 (omega (arith, c.loop-label.invariant.whole))) in
    (λ e. (is.0, is.1), λ are. refl)

pub returns-then-at-eq0-clause-text : goal.returns-then-at-eq0-clause-text
returns-then-at-eq0-clause-text c =
    is_root _ _ _ _ _ _ _ _ c.loop-label.invariant c.in-End.ensures _ c.if-at-eq0.true
    (take_more_set c.loop-label.room 0 46 (omega (arith, c.loop-label.invariant.whole)))

pub returns-then-count_usual-dots-clause-some : goal.returns-then-count_usual-dots-clause-some
returns-then-count_usual-dots-clause-some c =
    none_of c.args.bytes.now c.args.message.now
    (is_unusual _ _ _ _ _ _ _ _ c.loop-label.invariant c.in-End.ensures c.count_usual.result
    c.count_usual.ensures.count c.if-count_usual-dots.true)

pub returns-in-End-clause-some : goal.returns-in-End-clause-some
returns-in-End-clause-some c =
    let is = is_text _ _ _ _ _ _ _ _ c.loop-label.invariant c.in-End.ensures c.count_usual.result
    c.count_usual.ensures.count (omega (arith, c.if-at-eq0.false)) c.if-count_usual-dots.false in
    (λ e. (is.0, is.1), λ are. refl)

pub returns-in-End-clause-text : goal.returns-in-End-clause-text
returns-in-End-clause-text c =
    is_text _ _ _ _ _ _ _ _ c.loop-label.invariant c.in-End.ensures c.count_usual.result
    c.count_usual.ensures.count (omega (arith, c.if-at-eq0.false)) c.if-count_usual-dots.false

pub returns-in-Torn-clause-some : goal.returns-in-Torn-clause-some
returns-in-Torn-clause-some c =
    none_of c.args.bytes.now c.args.message.now (is_torn _ _ _ _ _ _ _ _ c.loop-label.invariant c.in-Torn.ensures)
