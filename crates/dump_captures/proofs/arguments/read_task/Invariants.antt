-- What the arguments so far tell.
use Rattle.std.proofs.Common.{◌≡◌}
use Rattle.std.specs.Prelude.{map, string_bytes}
use Rattle.dump_captures.specs.Arguments.{more}
use Rattle.dump_captures.specs.private.Parts.{reading_of}
use Rattle.dump_captures.proofs.Words.{read}
use Rattle.dump_captures.proofs.arguments.read_task.Given as goal

abbrev pub invariant-loop-argument : goal.invariant-loop-argument
invariant-loop-argument l = read (map string_bytes l.yielded) ≡ more (reading_of l.reading)
