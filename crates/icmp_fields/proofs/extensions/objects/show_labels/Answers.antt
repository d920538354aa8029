-- Each turn prints the first of the labels that are left.
use Rattle.std.proofs.Common.{◌++◌, ◌∷◌, ◌∙◌, [], ap, append_assoc, false, refl, subst, sym}
use Rattle.std.proofs.lemmas.List.{append-nil, map-append}
use Rattle.icmp_fields.specs.Extensions.{label_entry}
use Rattle.icmp_fields.specs.private.Entries.{Continues}
use Rattle.icmp_fields.proofs.ExtensionEntries.{continues_as, continues_later, continues_none, continues_one}
use Rattle.icmp_fields.proofs.extensions.objects.show_labels.Goals as goal

pub loop-entry-init : goal.loop-entry-init
loop-entry-init g c = ([], refl, continues_none c.args.form false _)

pub loop-entry-preserved : goal.loop-entry-preserved
loop-entry-preserved g c =
    let (so_far, is, printed) = c.loop-entry.invariant in
    let one = c.in-Some.entry ∷ [] in (
      so_far ++ one,
      append_assoc so_far one _ ∙ ap (λ more. so_far ++ more) (sym c.in-Some.ensures.steps) ∙ is,
      subst (Continues c.args.form false _ _) (sym (map-append label_entry so_far one))
          (continues_later c.args.form _ _ _ _ _ printed
          (continues_one c.args.form false _ _ _ c.in_ok-show_label.ensures)),
    )

pub returns : goal.returns
returns g c =
    let (so_far, is, printed) = c.loop-entry.invariant in
    let all = sym (append-nil so_far) ∙ ap (λ more. so_far ++ more) (sym c.in_default.ensures.steps.0) ∙ is in
    continues_as c.args.form false _ _ _ _ all printed
