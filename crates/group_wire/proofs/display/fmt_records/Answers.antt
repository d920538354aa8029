-- Each turn writes one record in parentheses.
use Rattle.std.proofs.Common.{[], ◌++◌, ◌∙◌, List, ℕ, ap, rules, sym}
use Rattle.std.specs.Prelude.{codes, IsOk}
use Rattle.std.proofs.Output.{has_written_append, writes_in_calls_nil}
use Rattle.std.proofs.lemmas.List.{append_assoc}
use Rattle.group_wire.specs.Display.{record_display, records_display}
use Rattle.group_wire.specs.Family.{width}
use Rattle.group_wire.specs.Record.{RecordValue, value_of}
use Rattle.group_wire.proofs.display.fmt_records.Goals as goal

pub loop-record-preserved : goal.loop-record-preserved
loop-record-preserved g c = λ plain.
    let w = width g.A.Address.family in
    let address = g.A.Address.display in
    let so_far = c.loop-record.invariant plain in
    let ok : IsOk c.write.result = search rules in
    let v = value_of g.A.Address.bytes c.in-Some.record in
    let steps = c.in-Some.ensures.steps in
    let this = codes " (" ++ (record_display address w v ++ codes ")") in (
      so_far.0 ++ this,
      has_written_append _ _ _ _ _ _ so_far.1 (c.write.ensures.writes so_far.1.plain ok),
      append_assoc so_far.0 this _
          ∙ ap (λ (x : RecordValue). so_far.0 ++ ((codes " (" ++ (record_display address w x ++ codes ")"))
          ++ records_display address w c.next.new.self)) steps.1.says
          ∙ ap (λ (left : List (List ℕ)). so_far.0 ++ records_display address w left) (sym steps.2)
          ∙ so_far.2,
    )

pub loop-record-init : goal.loop-record-init
loop-record-init g c = λ plain. (
  [],
  record { wrote = writes_in_calls_nil g.W.Write.write_str_gives c.args.f.now.writer; plain = plain },
  ap (λ (left : List (List ℕ)). records_display g.A.Address.display (width g.A.Address.family) left)
      c.into_iter-record-iterator.ensures.into_iter_gives,
)
