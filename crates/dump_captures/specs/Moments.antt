-- Times as values, and their texts.
use Rattle.std.specs.Prelude.{ℕ, ◌+◌, ◌*◌, List, ◌++◌, codes, decimal}
use Rattle.wirebase.specs.Digits.{last_digits}
use Rattle.dump_captures.specs.TimeText.{form_text, long_text, sign_text}
use Rattle.dump_captures.specs.declared.moment.Moment.{Moment}
use Rattle.dump_captures.specs.declared.when.Span.{Span}
use Rattle.dump_captures.specs.declared.when.TimeWord.{TimeWord}
use Rattle.dump_captures.specs.declared.when.TimeWord.TheVariants.{Clock, Utc, Seconds}
use Rattle.dump_captures.specs.declared.when.When.{When}

abbrev pub nanos_of : Moment → ℕ
nanos_of m = m.seconds * 1000000000 + m.nanoseconds

unfoldable pub span_text : Span → List ℕ
span_text s = sign_text s.is_negative ++ (decimal s.len.seconds ++ (codes "." ++ last_digits 9 s.len.nanoseconds))

abbrev pub word_text : TimeWord → List ℕ
word_text (Utc time) = long_text time.ten_thousands time.octets
word_text (Clock time) = time.octets
word_text (Seconds span) = span_text span

abbrev pub when_text : When → List ℕ
when_text w = form_text w.form (nanos_of w.from) (nanos_of w.time)
