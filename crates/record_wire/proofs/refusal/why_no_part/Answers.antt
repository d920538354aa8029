use Rattle.record_wire.proofs.Words.{◌∙◌, ap, inl, inr, shown, sym}
use Rattle.record_wire.proofs.TornNames.{behind_label, split_pointer, split_end, no_part_behind}
use Rattle.record_wire.proofs.refusal.why_no_part.Goals as goal

pub loop-rest-preserved : goal.loop-rest-preserved
loop-rest-preserved c =
    behind_label c.args.text.now c.loop-rest.left.now _ c.in-Label.rest.now c.loop-rest.invariant c.in-Label.ensures

pub why_torn-requires : goal.why_torn-requires
why_torn-requires c =
    let text = c.args.text.now in
    let left = c.loop-rest.left.now in
    elim c.in-Pointer.is [
      | inl (target, e) ↦
          let split = split_pointer text left target c.loop-rest.invariant (ap shown (sym e) ∙ c.read_front.ensures) in
          absurd (c.requires split.0 split.1 split.2)
      | inr more ↦ elim more [
        | inl e ↦
            let split = split_end text left c.loop-rest.invariant (ap shown (sym e) ∙ c.read_front.ensures) in
            absurd (c.requires split.0 split.1 split.2)
        | inr e ↦ ap shown (sym e) ∙ c.read_front.ensures
      ]
    ]

pub returns-in-Pointer : goal.returns-in-Pointer
returns-in-Pointer c =
    no_part_behind c.args.text.now c.loop-rest.left.now _ c.loop-rest.invariant c.why_torn.ensures
