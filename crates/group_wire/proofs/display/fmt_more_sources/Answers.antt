-- Each turn writes one source after a comma.
use Rattle.std.proofs.Common.{[], ◌++◌, ◌∙◌, List, ℕ, ap, rules, sym}
use Rattle.std.specs.Prelude.{codes, flat_map, IsOk}
use Rattle.std.proofs.Output.{has_written_append, writes_in_calls_nil}
use Rattle.std.proofs.lemmas.List.{append_assoc}
use Rattle.group_wire.proofs.display.fmt_more_sources.Goals as goal

pub loop-source-preserved : goal.loop-source-preserved
loop-source-preserved g c = λ plain.
    let behind_comma = λ (one : List ℕ). codes "," ++ g.A.Address.display one in
    let so_far = c.loop-source.invariant plain in
    let ok : IsOk c.fmt_next_source.result = search rules in
    let this = behind_comma (g.A.Address.bytes c.in-Some.source) in (
      so_far.0 ++ this,
      has_written_append _ _ _ _ _ _ so_far.1 (c.fmt_next_source.ensures so_far.1.plain ok),
      append_assoc so_far.0 this _
          ∙ ap (λ (left : List (List ℕ)). so_far.0 ++ flat_map behind_comma left) (sym c.in-Some.ensures.steps)
          ∙ so_far.2,
    )

pub loop-source-init : goal.loop-source-init
loop-source-init g c = λ plain. (
  [],
  record { wrote = writes_in_calls_nil g.W.Write.write_str_gives c.args.f.now.writer; plain = plain },
  ap (λ (left : List (List ℕ)). flat_map (λ (one : List ℕ). codes "," ++ g.A.Address.display one) left)
      c.into_iter-source-iterator.ensures.into_iter_gives,
)
