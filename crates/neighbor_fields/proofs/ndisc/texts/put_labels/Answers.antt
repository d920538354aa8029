-- Each turn puts an octet of a label, or a dot for the length of a label.
use Rattle.std.proofs.Common.{◌∙◌, ◌+◌, ◌++◌, ap, append_assoc, codes, drop, get_or, sym}
use Rattle.std.proofs.lemmas.List.{at_drop_more}
use Rattle.wirebase.proofs.Sinks.{put_both}
use Rattle.neighbor_fields.specs.NdiscTexts.{label_character, text_within}
use Rattle.neighbor_fields.proofs.SearchNames.{text_label, text_octet}
use Rattle.neighbor_fields.proofs.ndisc.texts.put_labels.Goals as goal
use Rattle.neighbor_fields.proofs.ndisc.texts.put_labels.Goals.{then-left-gt0+in_ok-put_label_character}
use Rattle.neighbor_fields.proofs.ndisc.texts.put_labels.Goals.{else-left-gt0+in_ok-put_str}

pub loop-octet-preserved : goal.loop-octet-preserved
loop-octet-preserved g c =
    let bytes = c.args.octets.now in
    let place = c.loop-octet.octet-index in
    let left = c.loop-octet.left in
    let rest = drop (place + 1) bytes in
    let octet = get_or bytes place 0 in
    let (done, is, puts) = c.loop-octet.invariant in
    let step = at_drop_more (text_within left) bytes place 0 c.loop-octet-test.true in
    elim c.if-left-gt0.branch [
      | then-left-gt0+in_ok-put_label_character w ↦
          let one = label_character octet in
          let cut = step ∙ text_octet left octet rest w.if-left-gt0.true in
          rw (w.output-is, w.left-is) (
            done ++ one,
            append_assoc done one _ ∙ ap (λ more. done ++ more) (sym cut) ∙ is,
            put_both _ _ _ _ done one puts w.in_ok-put_label_character.ensures.calls,
          )
      | else-left-gt0+in_ok-put_str w ↦
          let cut = step ∙ text_label left octet rest w.if-left-gt0.false in
          rw (w.output-is, w.left-is) (
            done ++ codes ".",
            append_assoc done (codes ".") _ ∙ ap (λ more. done ++ more) (sym cut) ∙ is,
            put_both _ _ _ _ done (codes ".") puts w.in_ok-put_str.ensures.calls,
          )
    ]
