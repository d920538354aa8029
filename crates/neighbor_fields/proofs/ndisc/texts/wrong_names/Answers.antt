-- Each turn passes an octet of a label, the end of a name, or the length of a label that the name has room for.
use Rattle.std.proofs.Common.{◌∙◌, ◌+◌, arith, drop, get_or, sym}
use Rattle.std.proofs.lemmas.List.{at_drop_more}
use Rattle.neighbor_fields.specs.NdiscTexts.{wrong_within}
use Rattle.neighbor_fields.proofs.SearchNames.{wrong_empty, wrong_ended, wrong_label, wrong_octet}
use Rattle.neighbor_fields.proofs.ndisc.texts.wrong_names.Goals as goal
use Rattle.neighbor_fields.proofs.ndisc.texts.wrong_names.Goals.{then-left-gt0}
use Rattle.neighbor_fields.proofs.ndisc.texts.wrong_names.Goals.{else-left-gt0+then-octet-eq0+else-taken-eq0}
use Rattle.neighbor_fields.proofs.ndisc.texts.wrong_names.Goals.{else-left-gt0+else-octet-eq0+else-octet-gt-MOST_LABEL+else-end-gt-MOST_NAME}

pub loop-place-preserved : goal.loop-place-preserved
loop-place-preserved c =
    let bytes = c.args.octets.now in
    let place = c.loop-place.place in
    let taken = c.loop-place.taken in
    let left = c.loop-place.left in
    let rest = drop (place + 1) bytes in
    let octet = get_or bytes place 0 in
    let (short, is) = c.loop-place.invariant in
    let step = at_drop_more (wrong_within taken left) bytes place 0 c.loop-place-test.true in
    let all = sym step ∙ is in
    elim c.if-left-gt0.branch [
      | then-left-gt0 w ↦
          rw (w.taken-is, w.left-is) (short, sym (wrong_octet taken left octet rest w.if-left-gt0.true) ∙ all)
      | else-left-gt0+then-octet-eq0+else-taken-eq0 w ↦
          let one = wrong_empty taken left octet rest w.if-left-gt0.false w.if-octet-eq0.true w.if-taken-eq0.false in
          rw (w.taken-is, w.left-is) (omega arith, sym one ∙ all)
      | else-left-gt0+else-octet-eq0+else-octet-gt-MOST_LABEL+else-end-gt-MOST_NAME w ↦
          let room = w.if-end-gt-MOST_NAME.false in
          let one = wrong_label taken left octet rest w.if-left-gt0.false w.if-octet-eq0.false
          w.if-octet-gt-MOST_LABEL.false room in
          rw (w.taken-is, w.left-is) (omega (arith, room), sym one ∙ all)
    ]

pub returns-then-taken-eq0 : goal.returns-then-taken-eq0
returns-then-taken-eq0 c =
    let bytes = c.args.octets.now in
    let place = c.loop-place.place in
    let taken = c.loop-place.taken in
    let left = c.loop-place.left in
    let rest = drop (place + 1) bytes in
    let octet = get_or bytes place 0 in
    let (short, is) = c.loop-place.invariant in
    let step = at_drop_more (wrong_within taken left) bytes place 0 c.loop-place-test.true in
    let one = wrong_ended taken left octet rest c.if-left-gt0.false c.if-octet-eq0.true c.if-taken-eq0.true in
    let padding = rw c.split_at.ensures.back at c.wrong_padding.ensures in
    padding ∙ sym one ∙ sym step ∙ is
