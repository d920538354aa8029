-- How far a capture is printed: how many packets are left to be, and from when on the times of further ones count.
use Rattle.std.specs.Prelude.{ℕ, ◌-◌, ◌==◌, Bool, true, false, if◌then◌else◌, List, Option, None, unwrap_or}
use Rattle.std.specs.Option.{option_map, option_map_or, option_or}
use Rattle.capture.specs.Time.{TimeValue}
use Rattle.dump_captures.specs.Moments.{nanos_of}
use Rattle.dump_captures.specs.TimeText.{form_text}
use Rattle.dump_captures.specs.declared.options.Options.{Options}
use Rattle.dump_captures.specs.declared.options.TimeForm.{TimeForm}
use Rattle.dump_captures.specs.declared.options.TimeForm.TheVariants.{Clock, Delta, Relative, Utc}
use Rattle.dump_captures.specs.declared.progress.Progress.{Progress}
use Rattle.dump_captures.specs.declared.tally.Outcome.{Outcome}
use Rattle.dump_captures.specs.declared.tally.Outcome.TheVariants.{Listed, Refused}

-- the form of times, the number of packets that are left to be printed, where there is one, and the times, in
-- nanoseconds, of the first packet that has one and of the last of those that were printed
pub record ProgressValue : Type 0 where
  pub form : TimeForm
  pub left : Option ℕ
  pub first : Option ℕ
  pub last : Option ℕ

abbrev pub progress_of : Progress → ProgressValue
progress_of p = record {
  form = p.form;
  left = p.left;
  first = option_map nanos_of p.first;
  last = option_map nanos_of p.last;
}

-- the form that is asked for, or that of packets on a line, or else in UTC
abbrev pub time_form : Options → TimeForm
time_form options = unwrap_or options.time_form (if options.is_brief then Clock else Utc)

abbrev pub begin : Options → ProgressValue
begin options = record { form = time_form options; left = options.most; first = None; last = None }

-- nothing more is read
abbrev pub is_enough : ProgressValue → Bool
is_enough b = option_map_or (λ left. left == 0) b.left false

-- ---- a packet more

-- one of those that are chosen
abbrev pub is_taken : Outcome → Bool
is_taken (Listed kind) = true
is_taken (Refused kind reason) = true
is_taken outcome = false

abbrev pub nanos_in : Option TimeValue → Option ℕ
nanos_in time = option_map (λ t. t.nanoseconds) time

abbrev pub after : Outcome → Option TimeValue → ProgressValue → ProgressValue
after outcome time b = record b {
  left = if is_taken outcome then option_map (λ n. n - 1) b.left else b.left;
  first = option_or b.first (nanos_in time);
  last = if is_taken outcome then option_or (nanos_in time) b.last else b.last;
}

-- ---- its time

-- from when on that is counted
abbrev pub start : TimeForm → ProgressValue → ℕ → ℕ
start Relative b nanoseconds = unwrap_or b.first nanoseconds
start Delta b nanoseconds = unwrap_or b.last nanoseconds
start form b nanoseconds = nanoseconds

-- its text, where the packet has a time
abbrev pub time_in : ProgressValue → Option TimeValue → Option (List ℕ)
time_in b time =
    option_map (λ t. form_text b.form (start b.form b t.nanoseconds) t.nanoseconds) time
