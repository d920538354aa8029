-- No kind so far has the name.
use Rattle.std.proofs.Common.{◌≡◌, drop}
use Rattle.dump_captures.specs.Arguments.{first_named, kind_named}
use Rattle.dump_captures.specs.Kinds.{kinds}
use Rattle.dump_captures.proofs.only.kind_of.Given as goal

abbrev pub invariant-loop-kind : goal.invariant-loop-kind
invariant-loop-kind l = kind_named l.name ≡ first_named l.name (drop l.kind-index kinds)
