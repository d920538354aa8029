-- Each turn prints a label, or how the walk ends.
use Rattle.listing.proofs.Words.{◌++◌, ◌∙◌, ap, append_assoc, sym}
use Rattle.packet_fields.proofs.Printing.{gains_both}
use Rattle.listing.proofs.Walking.{listing-label}
use Rattle.listing.proofs.name.show_labels.Goals as goal

pub loop-label-preserved : goal.loop-label-preserved
loop-label-preserved g c =
    let (done, is, gains) = c.loop-label.invariant in
    let gives = rw c.in-Some-Ok.field-0-is at c.in-Some-Ok.ensures.steps in (
      _,
      append_assoc done _ _ ∙ ap (λ rest. done ++ rest) (sym (listing-label _ _ _ gives)) ∙ is,
      gains_both _ _ _ _ _ gains c.in_ok-line-in-Some-Ok.ensures,
    )
