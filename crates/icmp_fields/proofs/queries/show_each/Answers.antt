-- Each turn prints the first of the routers that are left.
use Rattle.std.proofs.Common.{◌≡◌, ◌++◌, ◌∷◌, ◌∙◌, ◌<◌, [], ap, append_assoc, arith, length, min, rules, subst, sym}
use Rattle.std.specs.Prelude.{map}
use Rattle.std.proofs.lemmas.Grind.{common_steps}
use Rattle.std.proofs.lemmas.List.{append-nil, drop_min, take_min}
use Rattle.packet_fields.specs.private.Entries.{PrintsEntries}
use Rattle.packet_fields.proofs.EntryChains.{none_no_more, one_more}
use Rattle.packet_fields.proofs.PartsInTurn.{first_part, no_octets}
use Rattle.icmp_fields.specs.Queries.{router_or_cut}
use Rattle.icmp_fields.proofs.queries.show_each.Goals as goal

pub loop-left-preserved : goal.loop-left-preserved
loop-left-preserved g c =
    let (done, is, first, printed) = c.loop-left.invariant in
    let width = c.args.width in
    let rest = c.loop-left.rest.now in
    let one = router_or_cut width c.split_at.result.0.now ∷ [] in
    let any : 0 < length rest = search rules in
    let min_is : c.min.result ≡ min width (length rest) = grind (arith, common_steps) in
    let part = rw (min_is, take_min width rest) at c.split_at.ensures.front in
    let others = rw (min_is, drop_min width rest) at c.split_at.ensures.back in
    let cut = first_part (λ more. width) c.loop-left.left rest c.split_at.result.0.now c.split_at.result.1.now
    c.loop-left-test.true any part others in (
      done ++ one,
      append_assoc done one _ ∙ ap (λ more. done ++ more) (sym (ap (map (router_or_cut width)) cut)) ∙ is,
      none_no_more done _,
      one_more _ _ _ _ done _ printed (rw first at c.in_ok-show_router_or_cut.ensures),
    )

pub returns-else-not-is_empty : goal.returns-else-not-is_empty
returns-else-not-is_empty g c =
    let (done, is, first, printed) = c.loop-left.invariant in
    let width = c.args.width in
    let empty : length c.loop-left.rest.now ≡ 0 = search rules in
    let none = no_octets (λ more. width) c.loop-left.left c.loop-left.rest.now empty in
    let all = sym (append-nil done) ∙ ap (λ more. done ++ map (router_or_cut width) more) (sym none) ∙ is in
    subst (PrintsEntries c.args.form (g.W.Write.contents c.args.output.now) (g.W.Write.contents c.loop-left.output)) all
    printed
