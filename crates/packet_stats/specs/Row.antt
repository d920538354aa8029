-- Rows of tables: a subject, how often messages speak of it, and the times that its answers took.
use Rattle.std.specs.Prelude.{◌+◌, ◌-◌, ◌*◌, ◌/◌, ◌^◌, [], ◌∷◌, List, None, Option, Some, if◌then◌else◌, length}
use Rattle.std.specs.Prelude.{min, nat_lt, slice_index, ℕ}
use Rattle.std.specs.Cmp.Lexicographic.{slice_cmp}
use Rattle.std.specs.Ordering.{flip_args, nat_cmp, on, then_cmp}
use Rattle.std.specs.declared.cmp.Ordering.{Ordering}
use Rattle.packet_stats.specs.Subject.{SubjectValue, place_of, rank_of, subject_of}
use Rattle.packet_stats.specs.Types.{Row}

-- a subject that a message speaks of, and where the message answers, the nanoseconds from the question on
pub record MentionValue : Type 0 where
  pub subject : SubjectValue
  pub after : Option ℕ

abbrev pub said_of : SubjectValue → MentionValue
said_of subject = record { subject = subject; after = None }

-- a row by its content: the times in ascending order, and how many more there were
pub record RowValue : Type 0 where
  pub subject : SubjectValue
  pub count : ℕ
  pub times : List ℕ
  pub unkept : ℕ

abbrev pub row_of : Row → RowValue
row_of r = record { subject = subject_of r.subject; count = r.count; times = r.times.items; unkept = r.unkept }

-- one more, as far as 64 bits count
abbrev pub one_more : ℕ → ℕ
one_more n = min (n + 1) (2 ^ 64 - 1)

-- ---- times

-- the most times of a row
abbrev pub most_times : ℕ
most_times = 4096

-- one more among others, in ascending order
abbrev pub with_time : ℕ → List ℕ → List ℕ
with_time t [] = t ∷ []
with_time t (x ∷ xs) = if nat_lt t x then t ∷ x ∷ xs else x ∷ with_time t xs

-- a time is kept where there is room for it
abbrev pub timed : Option ℕ → RowValue → RowValue
timed None r = r
timed (Some t) r =
    if nat_lt (length r.times) most_times then record r { times = with_time t r.times }
    else record r { unkept = one_more r.unkept }

-- The time that this percentage of all times are not above, by the nearest rank: that in this place of the ascending
-- order, from 1 on, where the place is the percentage of their number, rounded up.
abbrev pub percentile : ℕ → List ℕ → Option ℕ
percentile percent [] = None
percentile percent (x ∷ xs) = Some (slice_index (x ∷ xs) ((percent * length (x ∷ xs) + 99) / 100 - 1))

-- ---- counting

-- the row with one message more, and that of the first message
abbrev pub counted : Option ℕ → RowValue → RowValue
counted after r =
    let t = timed after r in
    record { subject = t.subject; count = one_more t.count; times = t.times; unkept = t.unkept }

abbrev pub first_row : MentionValue → RowValue
first_row m = counted m.after (record { subject = m.subject; count = 0; times = []; unkept = 0 })

-- ---- order

-- The order of a page: of subjects of DNS the row with the higher count first, and of those with the same, as of all
-- others, the one whose subject is first by its octets.
abbrev pub row_cmp : RowValue → RowValue → Ordering
row_cmp =
    then_cmp (flip_args (on (λ r. rank_of r.subject r.count) nat_cmp))
    (on (λ r. place_of r.subject) (slice_cmp nat_cmp))
