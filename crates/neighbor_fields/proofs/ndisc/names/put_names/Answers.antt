-- Each turn prints a name.
use Rattle.std.proofs.Common.{◌<◌, ◌++◌, ◌∷◌, ◌∙◌, [], ap, append_assoc, arith, length, refl, sym, true}
use Rattle.std.proofs.lemmas.Bool.{eqb-false}
use Rattle.packet_fields.proofs.TextRuns.{run_more, run_none, run_one, still_both}
use Rattle.neighbor_fields.specs.NdiscTexts.{name_text}
use Rattle.neighbor_fields.proofs.SearchNames.{names_first}
use Rattle.neighbor_fields.proofs.ndisc.names.put_names.Goals as goal

pub loop-rest-init : goal.loop-rest-init
loop-rest-init g c = ([], refl, refl, run_none c.args.form _)

pub loop-rest-preserved : goal.loop-rest-preserved
loop-rest-preserved g c =
    let (done, is, first, gains) = c.loop-rest.invariant in
    let rest = c.loop-rest.rest.now in
    let one = name_text c.split_at.result.0.now ∷ [] in
    let some : 0 < length rest =
    omega (arith, eqb-false (length rest) 0 (sym c.is_empty.ensures ∙ c.loop-rest-test.true)) in
    let cut = names_first rest c.split_at.result.0.now c.split_at.result.1.now some c.if-rest-ne0.true
    (rw c.name_len.ensures.value at c.split_at.ensures.front)
    (rw c.name_len.ensures.value at c.split_at.ensures.back) in (
      done ++ one,
      append_assoc done one _ ∙ ap (λ more. done ++ more) (sym cut) ∙ is,
      still_both true done one,
      run_more _ _ _ _ done one gains (run_one _ _ _ _ _ (rw first at c.in_ok-put_among.ensures)),
    )
