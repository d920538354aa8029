-- Each turn puts a label after a dot.
use Rattle.std.proofs.Common.{◌∙◌, ◌∷◌, ◌++◌, ap, append_assoc, sym}
use Rattle.wirebase.proofs.Sinks.{put_both}
use Rattle.record_wire.specs.NameText.{behind_dots, label_text}
use Rattle.dns_fields.proofs.netbios.put_scope.Goals as goal

pub loop-label-preserved : goal.loop-label-preserved
loop-label-preserved g c =
    let (done, is, before) = c.loop-label.invariant in
    let text = label_text c.in-Some.label.now in (
      done ++ 46 ∷ text,
      append_assoc done (46 ∷ text) _ ∙ ap (λ more. done ++ more) (sym (ap behind_dots c.in-Some.ensures.steps)) ∙ is,
      put_both _ _ _ _ _ _ before (put_both _ _ _ _ _ _ c.in_ok-put_str.ensures.calls c.in_ok-put_label.ensures.calls),
    )
