-- The option that is nearest is told.
use Rattle.std.proofs.Common.{◌∙◌, sym}
use Rattle.std.specs.Prelude.{string_bytes}
use Rattle.dump_captures.proofs.Words.{unknown-option}
use Rattle.dump_captures.proofs.arguments.Reading.read_setting.Goals as goal

pub returns-in_default-clause-step : goal.returns-in_default-clause-step
returns-in_default-clause-step c =
    unknown-option (string_bytes c.args.word) c.split.result.0.now _ _
    (rw c.as_str.ensures.value at c.split.ensures.before) (sym c.setting_of.ensures ∙ c.in_default.is)
    c.in_ok-near.ensures.found
