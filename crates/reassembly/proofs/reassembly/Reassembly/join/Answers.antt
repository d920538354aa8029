-- A fragment is added to its datagram.
use Rattle.std.proofs.Common.{◌∙◌, ap, drop, map, refl, subst, suc, take}
use Rattle.reassembly.specs.Fragment.{value_of}
use Rattle.reassembly.specs.Partial.{Takes, kept, partial_of, refused, whole, whole_of}
use Rattle.reassembly.specs.private.Parts.{taken_of}
use Rattle.reassembly.specs.Reassembly.{joins}
use Rattle.reassembly.specs.Types.{Partial}
use Rattle.reassembly.proofs.Places.{at_its_place, none_at_place, other_at_place, same_at_place}
use Rattle.reassembly.proofs.reassembly.Reassembly.join.Goals as goal

pub returns-in-Err-clause-fault : goal.returns-in-Err-clause-fault
returns-in-Err-clause-fault c = (
  c.requires.sound,
  same_at_place c.args.self.now.datagrams.items c.args.place c.index_mut.result.now c.take.new.self c.requires.within
      c.index_mut.ensures.value c.in-Err.ensures.fault,
)

pub returns-in-Ok-Kept-clause-adds : goal.returns-in-Ok-Kept-clause-adds
returns-in-Ok-Kept-clause-adds c =
    let items = c.args.self.now.datagrams.items in
    let i = c.args.place in
    let d = c.index_mut.result.now in
    joins (map partial_of (take i items)) (map partial_of (drop (suc i) items)) (partial_of d)
    (partial_of c.take.new.self) kept c.requires.sound
    (at_its_place items i d c.requires.within c.index_mut.ensures.value) c.requires.unknown
    (ap (λ (x : Partial). x.key) c.index_mut.ensures.value ∙ c.requires.key d)
    (subst (λ t. Takes (partial_of d) c.args.number (value_of c.args.fragment.now) (taken_of t)
    (partial_of c.take.new.self)) c.in-Ok-Kept.field-0-is c.in-Ok-Kept.ensures.takes) refl
    (other_at_place items i c.take.new.self c.requires.within)

pub returns-in-Ok-Refused-clause-adds : goal.returns-in-Ok-Refused-clause-adds
returns-in-Ok-Refused-clause-adds c =
    let items = c.args.self.now.datagrams.items in
    let i = c.args.place in
    let d = c.index_mut.result.now in
    joins (map partial_of (take i items)) (map partial_of (drop (suc i) items)) (partial_of d)
    (partial_of c.take.new.self) (refused c.in-Ok-Refused.refusal) c.requires.sound
    (at_its_place items i d c.requires.within c.index_mut.ensures.value) c.requires.unknown
    (ap (λ (x : Partial). x.key) c.index_mut.ensures.value ∙ c.requires.key d)
    (subst (λ t. Takes (partial_of d) c.args.number (value_of c.args.fragment.now) (taken_of t)
    (partial_of c.take.new.self)) c.in-Ok-Refused.field-0-is c.in-Ok-Refused.ensures.takes) refl
    (other_at_place items i c.take.new.self c.requires.within)

pub returns-in-Ok-Whole-clause-adds : goal.returns-in-Ok-Whole-clause-adds
returns-in-Ok-Whole-clause-adds c =
    let items = c.args.self.now.datagrams.items in
    let i = c.args.place in
    let d = c.index_mut.result.now in
    joins (map partial_of (take i items)) (map partial_of (drop (suc i) items)) (partial_of d)
    (partial_of c.take.new.self) (whole (whole_of c.in-Ok-Whole.whole)) c.requires.sound
    (at_its_place items i d c.requires.within c.index_mut.ensures.value) c.requires.unknown
    (ap (λ (x : Partial). x.key) c.index_mut.ensures.value ∙ c.requires.key d)
    (subst (λ t. Takes (partial_of d) c.args.number (value_of c.args.fragment.now) (taken_of t)
    (partial_of c.take.new.self)) c.in-Ok-Whole.field-0-is c.in-Ok-Whole.ensures.takes) refl
    (none_at_place items c.remove.new.self.items i c.take.new.self c.requires.within c.remove.ensures.items)
