-- How far the run has come.
use Rattle.std.proofs.Common.{drop, length}
use Rattle.std.specs.Prelude.{map, nat_lt, string_bytes}
use Rattle.dump_captures.proofs.EachFile.{SoFar}
use Rattle.dump_captures.specs.Files.{bytes_of_name}
use Rattle.dump_captures.specs.Tally.{tally_of}
use Rattle.dump_captures.proofs.files.dump_each.Given as goal

abbrev pub invariant-loop-file : goal.invariant-loop-file
invariant-loop-file g l =
    SoFar l.options (bytes_of_name (g.C.Captures.input_bytes l.captures) (g.C.Captures.file_bytes l.captures))
    (nat_lt 1 (length l.files)) (map string_bytes l.files) (tally_of l.initial.total) l.initial.status
    (g.W.Write.contents l.initial.output) (map string_bytes (drop l.file-index l.files)) (tally_of l.total) l.status
    (g.W.Write.contents l.output)
