-- Each turn prints the name of a flag, where it is set.
use Rattle.std.proofs.Common.{◌++◌, ◌∙◌, [], ap, append_assoc, drop, refl, sym, take, true}
use Rattle.std.proofs.lemmas.List.{drop-drop}
use Rattle.packet_fields.specs.Texts.{flag_names}
use Rattle.packet_fields.specs.Names.{rows_of}
use Rattle.packet_fields.proofs.TextRuns.{flags_split, run_more, run_none, still_both}
use Rattle.packet_fields.specs.private.TextRuns.{still_first}
use Rattle.packet_fields.proofs.texts.put_flags.Goals as goal

pub loop-place-init : goal.loop-place-init
loop-place-init g c = ([], refl, refl, run_none c.args.form _)

pub loop-place-preserved : goal.loop-place-preserved
loop-place-preserved g c =
    let (done, is, first, gains) = c.loop-place.invariant in
    let bits = c.args.bits in
    let rest = drop c.loop-place.place c.args.rows.now in
    let names = flag_names (rows_of (take 1 rest)) bits in (
      done ++ names,
      append_assoc done names _
          ∙ ap (λ more. done ++ more)
          (ap (λ others. names ++ flag_names (rows_of others) bits)
          (sym (drop-drop 1 c.loop-place.place c.args.rows.now))
          ∙ flags_split rest bits)
          ∙ is,
      c.in_ok-is_first.ensures.0 ∙ ap (λ f. still_first f names) first ∙ still_both true done names,
      run_more _ _ _ _ done names gains (rw first at c.in_ok-is_first.ensures.1),
    )
