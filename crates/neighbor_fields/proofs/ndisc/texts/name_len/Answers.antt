-- Each turn passes an octet of a label, or the length of a label.
use Rattle.std.proofs.Common.{◌+◌, arith, drop, get_or}
use Rattle.std.proofs.lemmas.List.{at_drop_more}
use Rattle.neighbor_fields.specs.NdiscTexts.{len_within}
use Rattle.neighbor_fields.proofs.SearchNames.{len_label, len_octet}
use Rattle.neighbor_fields.proofs.ndisc.texts.name_len.Goals as goal
use Rattle.neighbor_fields.proofs.ndisc.texts.name_len.Goals.{then-left-gt0, else-left-gt0+else-octet-eq0}

pub loop-place-preserved : goal.loop-place-preserved
loop-place-preserved c =
    let bytes = c.args.octets.now in
    let place = c.loop-place.place in
    let left = c.loop-place.left in
    let rest = drop (place + 1) bytes in
    let octet = get_or bytes place 0 in
    let step = at_drop_more (len_within left) bytes place 0 c.loop-place-test.true in
    elim c.if-left-gt0.branch [
      | then-left-gt0 w ↦
          let one = len_octet left octet rest w.if-left-gt0.true in
          rw w.left-is (omega (arith, step, one, c.loop-place.invariant))
      | else-left-gt0+else-octet-eq0 w ↦
          let one = len_label left octet rest w.if-left-gt0.false w.if-octet-eq0.false in
          rw w.left-is (omega (arith, step, one, c.loop-place.invariant))
    ]
