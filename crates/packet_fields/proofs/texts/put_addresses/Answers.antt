-- Each turn prints an address.
use Rattle.std.proofs.Common.{◌++◌, ◌∷◌, ◌∙◌, [], ap, append_assoc, arith, refl, sym, true}
use Rattle.packet_fields.specs.Texts.{address_text}
use Rattle.packet_fields.proofs.PartsInTurn.{addresses_first}
use Rattle.packet_fields.proofs.TextRuns.{run_more, run_none, run_one, still_both}
use Rattle.packet_fields.proofs.texts.put_addresses.Goals as goal

pub loop-rest-init : goal.loop-rest-init
loop-rest-init g c = ([], refl, refl, run_none c.args.form _)

pub loop-rest-preserved : goal.loop-rest-preserved
loop-rest-preserved g c =
    let (done, is, first, gains) = c.loop-rest.invariant in
    let one = address_text c.split_at.result.0.now ∷ [] in
    let some = c.address_len.ensures.some in
    let within = c.address_len.ensures.within in
    let cut = addresses_first c.args.list.width c.loop-rest.rest.now c.split_at.result.0.now c.split_at.result.1.now
    c.args.list.some (omega arith) (rw c.address_len.ensures.value at c.split_at.ensures.front)
    (rw c.address_len.ensures.value at c.split_at.ensures.back) in (
      done ++ one,
      append_assoc done one _ ∙ ap (λ more. done ++ more) (sym cut) ∙ is,
      still_both true done one,
      run_more _ _ _ _ done one gains (run_one _ _ _ _ _ (rw first at c.in_ok-put_among.ensures)),
    )
