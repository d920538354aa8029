-- What the files print, and then what stands at the end.
use Rattle.std.proofs.lemmas.List.{length-map}
use Rattle.std.specs.Prelude.{map, string_bytes}
use Rattle.dump_captures.proofs.EachFile.{run}
use Rattle.dump_captures.proofs.files.dump_all.Goals as goal

pub returns : goal.returns
returns g c =
    run c.args.options.now _ (map string_bytes c.args.files.now) c.args.status.now _ _ _ _ _ c.show_end.result
    (rw (← length-map c.args.files.now string_bytes, c.new-total.ensures) at c.in_ok-dump_each.ensures)
    c.show_end.ensures
