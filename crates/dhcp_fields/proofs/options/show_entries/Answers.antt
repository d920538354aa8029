-- Each turn prints the option of the first of the kinds that are left.
use Rattle.std.proofs.Common.{◌++◌, ◌∷◌, ◌∙◌, [], ap, append-nil, append_assoc, refl, subst, sym}
use Rattle.std.specs.Prelude.{map}
use Rattle.packet_fields.specs.private.Entries.{PrintsEntries}
use Rattle.packet_fields.proofs.EntryChains.{entries_none, none_no_more, one_more}
use Rattle.dhcp_fields.specs.Options.{kinds_in, option_entry}
use Rattle.dhcp_fields.proofs.options.show_entries.Goals as goal

pub loop-kind-init : goal.loop-kind-init
loop-kind-init g c =
    λ parts are. (
      [],
      ap (λ left. map (option_entry parts) (kinds_in left)) (sym (c.of-left.ensures.unique parts are)),
      refl,
      entries_none _ _,
    )

pub loop-kind-preserved : goal.loop-kind-preserved
loop-kind-preserved g c =
    λ parts are.
    let (done, is, first, printed) = c.loop-kind.invariant parts are in
    let one = option_entry parts c.in-Some.kind ∷ [] in (
      done ++ one,
      append_assoc done one _
          ∙ ap (λ more. done ++ map (option_entry parts) more) (sym c.in-Some.ensures.gives) ∙ is,
      none_no_more done _,
      one_more _ _ _ _ done _ printed (rw first at (c.in_ok-show_option.ensures parts are)),
    )

pub returns : goal.returns
returns g c =
    λ parts are.
    let (done, is, first, printed) = c.loop-kind.invariant parts are in
    subst (PrintsEntries _ _ _)
    (sym (append-nil done)
    ∙ ap (λ more. done ++ map (option_entry parts) more) (sym c.in_default.ensures.gives.0) ∙ is) printed
