-- What private functions and models need; no public clause rests on it.
use Rattle.std.specs.Prelude.{ℕ, List, ◌++◌, map, string_bytes}
use Rattle.std.specs.Option.{option_map}
use Rattle.capture.specs.TimeText.{month_and_day_text}
use Rattle.capture.specs.declared.calendar.Date.{Date}
use Rattle.wirebase.specs.Digits.{last_digits}
use Rattle.dump_captures.specs.Arguments.{wrong_value, ReadingValue, Reads, help, version, unknown, more, ends}
use Rattle.dump_captures.specs.declared.arguments.Reading.{Reading}
use Rattle.dump_captures.specs.declared.arguments.Step.{Step}
use Rattle.dump_captures.specs.declared.arguments.Step.TheVariants as step
use Rattle.dump_captures.specs.declared.counts.Count.{Count}
use Rattle.dump_captures.specs.declared.counts.Category.TheVariants as category

abbrev pub reading_of : Reading → ReadingValue
reading_of r = record {
  options = r.options;
  host = option_map string_bytes r.host;
  name = option_map string_bytes r.name;
  files = map string_bytes r.files.items;
  wants = r.wants;
  wants_files = r.wants_files;
}

-- what a step of the reading leaves
abbrev pub reads_of : Step → ReadingValue → Reads
reads_of step.More r = more r
reads_of step.Help r = ends help
reads_of step.Version r = ends version
reads_of (step.Unknown wrong) r = ends (unknown (wrong_value wrong))

abbrev pub no_count : Count
no_count = record { category = category.Link 0; packets = 0 }

-- what is kept of a date: all of it but the digits of its year before the last four
unfoldable pub kept_text : Date → List ℕ
kept_text d = last_digits 4 d.year ++ month_and_day_text d
