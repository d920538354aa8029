-- The standard input, or in each turn one file more.
use Rattle.std.proofs.Common.{◌∙◌, sym, arith}
use Rattle.std.proofs.lemmas.List.{drop_more, drop_all}
use Rattle.std.specs.Prelude.{string_bytes}
use Rattle.dump_captures.specs.Files.{bytes_of_name}
use Rattle.dump_captures.proofs.EachFile.{so_far-init, so_far-more, so_far-end, so_far-one, named, none_named}
use Rattle.dump_captures.proofs.files.dump_each.Goals as goal

pub returns-then-is_empty : goal.returns-then-is_empty
returns-then-is_empty g c =
    rw (none_named c.args.files.now (sym c.is_empty.ensures ∙ c.if-is_empty.true), c.max.ensures)
    (so_far-one c.args.options.now
    (bytes_of_name (g.C.Captures.input_bytes c.args.captures.now) (g.C.Captures.file_bytes c.args.captures.now))
    _ _ c.args.status.now c.in_ok-own.own _ _ c.in_ok-own.ensures)

pub loop-file-init : goal.loop-file-init
loop-file-init g c = so_far-init _ _ _ _ _ _ _

pub loop-file-preserved : goal.loop-file-preserved
loop-file-preserved g c =
    let left = drop_more c.args.files.now c.loop-file.file-index c.file-item.result c.loop-file-test.true in
    rw c.max-in-loop-file.ensures
    (so_far-more _ _ _ _ _ _ _ _ (string_bytes c.file-item.result) _ _ _ _ _ _ _
    (rw (left, ← c.file-item.is) at c.loop-file.invariant) (rw c.as_str.ensures.value at c.in_ok-show_title.ensures)
    (rw c.as_str-in-loop-file.ensures.value at c.in_ok-own-2.ensures))

pub returns : goal.returns
returns g c =
    let all = drop_all c.loop-file.file-index c.args.files.now (omega (arith, c.loop-file-test.false)) in
    rw (named string_bytes c.args.files.now (sym c.is_empty.ensures ∙ c.if-is_empty.false))
    (so_far-end _ _ _ _ _ _ _ _ _ _ (rw all at c.loop-file.invariant))
