-- The earlier one is taken from the later one.
use Rattle.std.proofs.Common.{◌∙◌, sym}
use Rattle.dump_captures.proofs.Moments.{backwards, forwards}
use Rattle.dump_captures.specs.Moments.{nanos_of}
use Rattle.dump_captures.proofs.when.between.Goals as goal

pub returns-then-is_before : goal.returns-then-is_before
returns-then-is_before c =
    backwards (nanos_of c.args.from) (nanos_of c.args.to) c.since.result
    (sym c.is_before.ensures ∙ c.if-is_before.true) c.since.ensures

pub returns : goal.returns
returns c =
    forwards (nanos_of c.args.from) (nanos_of c.args.to) c.since-2.result
    (sym c.is_before.ensures ∙ c.if-is_before.false) c.since-2.ensures
