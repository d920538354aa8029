-- Each turn prints a comma and one option more.
use Rattle.std.proofs.Common.{◌∙◌, ◌++◌, ap, append_assoc, sym}
use Rattle.packet_fields.proofs.Printing.{◌then◌, gained}
use Rattle.dns_fields.specs.Edns.{option_texts}
use Rattle.dns_fields.specs.private.Parts.{behind_commas}
use Rattle.dns_fields.proofs.edns.put_others.Goals as goal

pub loop-option-preserved : goal.loop-option-preserved
loop-option-preserved g c =
    let (done, is, gains) = c.loop-option.invariant in
    let gives = rw c.in-Some-Ok.field-0-is at c.in-Some-Ok.ensures.steps in (
      _,
      append_assoc done _ _
          ∙ ap (λ rest. done ++ rest) (sym (ap (λ answers. behind_commas c.args.form (option_texts answers)) gives))
          ∙ is,
      gains then (gained _ _ _ c.in_ok-write_all.ensures.bytes then c.in_ok-put_text.ensures),
    )
