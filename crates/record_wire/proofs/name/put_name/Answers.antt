-- Each turn reads the labels up to a pointer, and goes on where it leads.
use Rattle.record_wire.proofs.Words.{◌≡◌, ◌+◌, ◌<◌, [], ◌∷◌, ◌++◌, ◌∙◌, IsNoPart, List, ℕ, ap, arith, front_of, length}
use Rattle.record_wire.proofs.Words.{length-append, length-take-le, refl, rules, shown, subst, sym, take}
use Rattle.record_wire.specs.private.NameParts.{EndsTooFar}
use Rattle.record_wire.proofs.NameParts.{all_same, no_name_far, no_name_torn, no_name_long, no_name_more}
use Rattle.record_wire.proofs.NameParts.{room_for_labels, drop_whole}
use Rattle.record_wire.proofs.NameRefusals.{at_start, at_labels, at_pointer, named, labels_long, label_long}
use Rattle.record_wire.proofs.NameRefusals.{far_pointer, one_pointer_more, part_refused}
use Rattle.record_wire.proofs.name.put_name.Goals as goal

pub loop-octets-init : goal.loop-octets-init
loop-octets-init c = at_start c.args.bytes.now c.args.message.now _ c.requires

pub returns-in_default-clause-complete : goal.returns-in_default-clause-complete
returns-in_default-clause-complete c = λ labels names.
    let fits = room_for_labels c.args.bytes.now c.args.message.now c.loop-octets.octets.items c.loop-octets.left.now
    c.loop-octets.reach.now c.loop-octets.pointers _ c.loop-octets.invariant.read c.read_labels-len.ensures.labels
    labels names.name_is.is names.fits in
    let ok = c.in_default.ensures.room.1 fits in
    absurd (cc ok)

pub returns-in_default-clause-told : goal.returns-in_default-clause-told
returns-in_default-clause-told c =
    let full : length c.loop-octets.octets.items + length (take c.read_labels-len.result.0 c.loop-octets.left.now) < 255
    → ⊥ = λ fits. (let ok = c.in_default.ensures.room.1 fits in absurd (cc ok)) in
    labels_long c.args.bytes.now c.args.message.now c.loop-octets.octets.items c.loop-octets.left.now
    c.loop-octets.reach.now c.loop-octets.pointers _ c.loop-octets.invariant c.read_labels-len.ensures.labels
    (omega (arith, full))

pub returns-in-End-clause-sound : goal.returns-in-End-clause-sound
returns-in-End-clause-sound c =
    let next = at_labels c.args.bytes.now c.args.message.now c.loop-octets.octets.items c.loop-octets.left.now
    c.loop-octets.reach.now c.loop-octets.pointers _ c.loop-octets.invariant c.read_labels-len.ensures.labels _
    (c.in-Ok.ensures.room.0 refl) c.in-Ok.ensures.pushes in
    named _ _ _ _ _ _ _ next (ap shown (sym c.in-End.is) ∙ c.read_labels-len.ensures.behind) (search rules)

pub returns-in-End-clause-complete : goal.returns-in-End-clause-complete
returns-in-End-clause-complete c = λ labels names.
    let next = at_labels c.args.bytes.now c.args.message.now c.loop-octets.octets.items c.loop-octets.left.now
    c.loop-octets.reach.now c.loop-octets.pointers _ c.loop-octets.invariant c.read_labels-len.ensures.labels _
    (c.in-Ok.ensures.room.0 refl) c.in-Ok.ensures.pushes in
    let same = all_same _ _ _ _ _ _ next.read (ap shown (sym c.in-End.is) ∙ c.read_labels-len.ensures.behind) labels
    names.name_is.is in
    let pushed : c.push.new.self.items ≡ c.push_labels.new.octets.items ++ 0 ∷ [] = search rules in
    (refl, pushed ∙ ap (λ (o : List ℕ). o ++ 0 ∷ []) same)

pub returns-in_default-follow-clause-complete : goal.returns-in_default-follow-clause-complete
returns-in_default-follow-clause-complete c = λ labels names.
    let next = at_labels c.args.bytes.now c.args.message.now c.loop-octets.octets.items c.loop-octets.left.now
    c.loop-octets.reach.now c.loop-octets.pointers _ c.loop-octets.invariant c.read_labels-len.ensures.labels _
    (c.in-Ok.ensures.room.0 refl) c.in-Ok.ensures.pushes in
    absurd (no_name_far _ _ _ _ _ _ c.in-Pointer.target next.read
    (ap shown (sym c.in-Pointer.is) ∙ c.read_labels-len.ensures.behind) (c.in_default-follow.ensures.none refl)
    labels names.name_is.is)

pub returns-in_default-follow-clause-told : goal.returns-in_default-follow-clause-told
returns-in_default-follow-clause-told c =
    let next = at_labels c.args.bytes.now c.args.message.now c.loop-octets.octets.items c.loop-octets.left.now
    c.loop-octets.reach.now c.loop-octets.pointers _ c.loop-octets.invariant c.read_labels-len.ensures.labels _
    (c.in-Ok.ensures.room.0 refl) c.in-Ok.ensures.pushes in
    far_pointer _ _ _ _ _ _ c.in-Pointer.target next
    (ap shown (sym c.in-Pointer.is) ∙ c.read_labels-len.ensures.behind) (c.in_default-follow.ensures.none refl)

pub returns-then-pointers-eq-MAX_POINTERS-clause-complete : goal.returns-then-pointers-eq-MAX_POINTERS-clause-complete
returns-then-pointers-eq-MAX_POINTERS-clause-complete c = λ labels names.
    let next = at_labels c.args.bytes.now c.args.message.now c.loop-octets.octets.items c.loop-octets.left.now
    c.loop-octets.reach.now c.loop-octets.pointers _ c.loop-octets.invariant c.read_labels-len.ensures.labels _
    (c.in-Ok.ensures.room.0 refl) c.in-Ok.ensures.pushes in
    absurd (no_name_more _ _ _ _ _ _ c.in-Pointer.target next.read
    (ap shown (sym c.in-Pointer.is) ∙ c.read_labels-len.ensures.behind) c.in-Some.ensures.some.inside
    c.if-pointers-eq-MAX_POINTERS.true labels names)

pub returns-then-pointers-eq-MAX_POINTERS-clause-told : goal.returns-then-pointers-eq-MAX_POINTERS-clause-told
returns-then-pointers-eq-MAX_POINTERS-clause-told c =
    let next = at_labels c.args.bytes.now c.args.message.now c.loop-octets.octets.items c.loop-octets.left.now
    c.loop-octets.reach.now c.loop-octets.pointers _ c.loop-octets.invariant c.read_labels-len.ensures.labels _
    (c.in-Ok.ensures.room.0 refl) c.in-Ok.ensures.pushes in
    one_pointer_more _ _ _ _ _ _ c.in-Pointer.target next
    (ap shown (sym c.in-Pointer.is) ∙ c.read_labels-len.ensures.behind) c.in-Some.ensures.some.inside
    c.if-pointers-eq-MAX_POINTERS.true

pub loop-octets-preserved : goal.loop-octets-preserved
loop-octets-preserved c =
    let leads = c.in-Some.ensures.some in
    let next = at_labels c.args.bytes.now c.args.message.now c.loop-octets.octets.items c.loop-octets.left.now
    c.loop-octets.reach.now c.loop-octets.pointers _ c.loop-octets.invariant c.read_labels-len.ensures.labels _
    (c.in-Ok.ensures.room.0 refl) c.in-Ok.ensures.pushes in
    rw (leads.left_is, leads.front_is) (
    at_pointer _ _ _ _ c.loop-octets.reach.now c.loop-octets.pointers c.in-Pointer.target next
    (ap shown (sym c.in-Pointer.is) ∙ c.read_labels-len.ensures.behind) leads.inside
    (omega (arith, c.loop-octets.invariant.few, c.if-pointers-eq-MAX_POINTERS.false))
    )

pub returns-in-Label-clause-complete : goal.returns-in-Label-clause-complete
returns-in-Label-clause-complete c = λ labels names.
    absurd (no_name_long _ _ _ _ _ c.in-Label.field-0.now c.in-Label.field-1.now _ _ c.loop-octets.invariant.read
    c.read_labels-len.ensures.labels
    (ap shown (sym c.in-Label.is) ∙ c.read_labels-len.ensures.behind)
    (subst (λ front. EndsTooFar c.read_labels-len.result.0 front) c.in-Label.is c.read_labels-len.ensures.far) labels
    names.name_is.is names.fits)

pub returns-in-Label-clause-told : goal.returns-in-Label-clause-told
returns-in-Label-clause-told c =
    let next = at_labels c.args.bytes.now c.args.message.now c.loop-octets.octets.items c.loop-octets.left.now
    c.loop-octets.reach.now c.loop-octets.pointers _ c.loop-octets.invariant c.read_labels-len.ensures.labels _
    (c.in-Ok.ensures.room.0 refl) c.in-Ok.ensures.pushes in
    let far = subst (λ front. EndsTooFar c.read_labels-len.result.0 front)
    c.in-Label.is c.read_labels-len.ensures.far in
    label_long _ _ _ _ _ c.in-Label.field-0.now c.in-Label.field-1.now _ next
    (ap shown (sym c.in-Label.is) ∙ c.read_labels-len.ensures.behind)
    (omega (
      arith,
      far,
      ap length c.in-Ok.ensures.pushes,
      length-append c.loop-octets.octets.items (take c.read_labels-len.result.0 c.loop-octets.left.now),
      length-take-le c.read_labels-len.result.0 c.loop-octets.left.now c.read_labels-len.ensures.fits,
    ))

pub returns-in-Torn-clause-complete : goal.returns-in-Torn-clause-complete
returns-in-Torn-clause-complete c = λ labels names.
    let next = at_labels c.args.bytes.now c.args.message.now c.loop-octets.octets.items c.loop-octets.left.now
    c.loop-octets.reach.now c.loop-octets.pointers _ c.loop-octets.invariant c.read_labels-len.ensures.labels _
    (c.in-Ok.ensures.room.0 refl) c.in-Ok.ensures.pushes in
    absurd (no_name_torn _ _ _ _ _ _ next.read (ap shown (sym c.in-Torn.is) ∙ c.read_labels-len.ensures.behind) labels
    names.name_is.is)

pub returns-in-Torn-clause-told : goal.returns-in-Torn-clause-told
returns-in-Torn-clause-told c =
    let next = at_labels c.args.bytes.now c.args.message.now c.loop-octets.octets.items c.loop-octets.left.now
    c.loop-octets.reach.now c.loop-octets.pointers _ c.loop-octets.invariant c.read_labels-len.ensures.labels _
    (c.in-Ok.ensures.room.0 refl) c.in-Ok.ensures.pushes in
    part_refused _ _ _ _ _ _ _ next (ap shown (sym c.in-Torn.is) ∙ c.read_labels-len.ensures.behind)
    (subst (λ (l : List ℕ). IsNoPart l c.why_torn.result)
    (drop_whole c.read_labels-len.result.0 c.loop-octets.left.now) c.why_torn.ensures)

pub why_torn-requires : goal.why_torn-requires
why_torn-requires c =
    (ap shown (sym c.in-Torn.is) ∙ c.read_labels-len.ensures.behind)
    ∙ ap front_of (sym (drop_whole c.read_labels-len.result.0 c.loop-octets.left.now))
