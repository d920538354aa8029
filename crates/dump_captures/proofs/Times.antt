-- The texts of times.
use Rattle.std.proofs.Common.{codes, ◌≡◌, ℕ, ◌+◌, ◌/◌, ◌%◌, ◌^◌, ◌<◌, ◌≤◌, List, [], ◌∷◌, ◌++◌, length, take, drop}
use Rattle.std.proofs.Common.{decimal, zero, suc, refl, sym, ◌∙◌, arith, append_assoc, length-append, lit≤}
use Rattle.std.proofs.lemmas.Fmt.{decimal_digit, decimal_step}
use Rattle.std.proofs.lemmas.List.{take-append-drop, append-nil, drop_all, take-append-le, take_all}
use Rattle.std.proofs.lemmas.Slice.{take-put_mid, drop-put_mid}
use borrow.Rule.Slice.PartMut.{put_mid}
use Rattle.capture.specs.Calendar.{date_of}
use Rattle.wirebase.specs.Digits.{last_digits}
use Rattle.dump_captures.specs.TimeText.{milliseconds_text, time_of_day_text, time_text, year_front}
use Rattle.dump_captures.specs.private.Parts.{kept_text}
use Rattle.capture.proofs.Calendars.{year-least, year-most}
use Rattle.capture.specs.TimeText.{clock_text, month_and_day_text}
use Rattle.capture.specs.declared.calendar.Date.{Date}
use Rattle.std.proofs.lemmas.Bool.{ne_eqb}
use Rattle.std.proofs.lemmas.Str.{IsAscii-append}
use Rattle.std.specs.Str.{IsAscii}
use Rattle.wirebase.proofs.TextAscii.{last_digits-ascii, tested-ascii}

-- ---- octets side by side

-- a part of ten octets that is written, and then the other twenty
pub joined : (date time zeros : List ℕ) → length date ≡ 10 → length time ≡ 20 → length zeros ≡ 20
    → put_mid 10 20 (date ++ zeros) time ≡ date ++ time
joined date time zeros ten twenty rest =
    let room = date ++ zeros in
    let whole : length room ≡ 30 = omega (arith, length-append date zeros) in
    let front : take 30 (put_mid 10 20 room time) ≡ take 10 room ++ time
    = take-put_mid 10 20 room time 30 (omega arith) (omega arith) in
    let behind : drop 30 (put_mid 10 20 room time) ≡ drop 30 room
    = drop-put_mid 10 20 room time 30 (lit≤ tt) (omega arith) twenty in
    let kept : take 10 room ≡ date
    = take-append-le 10 date zeros (omega arith) ∙ take_all 10 date (omega arith) in
    sym (take-append-drop 30 (put_mid 10 20 room time))
    ∙ rw (front, behind, drop_all 30 room (omega arith), append-nil, kept) refl

-- ---- characters

-- all of them are ASCII
month-ascii : (month day : ℕ)
    → IsAscii (codes "-" ++ (last_digits 2 month ++ (codes "-" ++ last_digits 2 day)))
month-ascii month day =
    let m = last_digits 2 month in
    let d = last_digits 2 day in
    let dash = tested-ascii (codes "-") refl in
    IsAscii-append (codes "-") (m ++ (codes "-" ++ d)) dash
    (IsAscii-append m (codes "-" ++ d) (last_digits-ascii 2 month)
    (IsAscii-append (codes "-") d dash (last_digits-ascii 2 day)))

clock-ascii : (hour minute second : ℕ)
    → IsAscii (last_digits 2 hour ++ (codes ":" ++ (last_digits 2 minute ++ (codes ":" ++ last_digits 2 second))))
clock-ascii hour minute second =
    let h = last_digits 2 hour in
    let m = last_digits 2 minute in
    let s = last_digits 2 second in
    let colon = tested-ascii (codes ":") refl in
    IsAscii-append h (codes ":" ++ (m ++ (codes ":" ++ s))) (last_digits-ascii 2 hour)
    (IsAscii-append (codes ":") (m ++ (codes ":" ++ s)) colon
    (IsAscii-append m (codes ":" ++ s) (last_digits-ascii 2 minute)
    (IsAscii-append (codes ":") s colon (last_digits-ascii 2 second))))

time-ascii : (seconds nanoseconds : ℕ) → IsAscii (time_of_day_text seconds nanoseconds)
unfolding time_of_day_text
time-ascii seconds nanoseconds =
    let clock = clock_text seconds in
    let digits = last_digits 9 nanoseconds in
    let front = IsAscii-append (codes "T") clock (tested-ascii (codes "T") refl)
    (clock-ascii (seconds / 3600 % 24) (seconds / 60 % 60) (seconds % 60)) in
    let point = IsAscii-append (codes "T" ++ clock) (codes ".") front (tested-ascii (codes ".") refl) in
    IsAscii-append (codes "T" ++ clock ++ codes "." ++ digits) (codes "Z")
    (IsAscii-append (codes "T" ++ clock ++ codes ".") digits point (last_digits-ascii 9 nanoseconds))
    (tested-ascii (codes "Z") refl)

pub milliseconds_ascii : (seconds nanoseconds : ℕ) (text : List ℕ) → text ≡ milliseconds_text seconds nanoseconds
    → IsAscii text
unfolding milliseconds_text
milliseconds_ascii seconds nanoseconds text is =
    let clock = clock_text seconds in
    let digits = last_digits 3 (nanoseconds / 1000000) in
    let front = clock-ascii (seconds / 3600 % 24) (seconds / 60 % 60) (seconds % 60) in
    rw is
    (IsAscii-append (clock ++ codes ".") digits (IsAscii-append clock (codes ".") front (tested-ascii (codes ".") refl))
    (last_digits-ascii 3 (nanoseconds / 1000000)))

pub octets_ascii : (date : Date) (seconds nanoseconds : ℕ) (text : List ℕ)
    → text ≡ kept_text date ++ time_of_day_text seconds nanoseconds → IsAscii text
unfolding kept_text
octets_ascii date seconds nanoseconds text is =
    rw is
    (IsAscii-append (kept_text date) (time_of_day_text seconds nanoseconds)
    (IsAscii-append (last_digits 4 date.year) (month_and_day_text date) (last_digits-ascii 4 date.year)
    (month-ascii date.month date.day)) (time-ascii seconds nanoseconds))

-- ---- years

-- a year of four digits, and one of more
four_digits : (year : ℕ) → 1000 ≤ year → year / 10000 ≡ 0 → decimal year ≡ last_digits 4 year
four_digits year least most =
    let below : year < 10000 = omega (arith, most) in
    let last : decimal (year / 10 / 10 / 10) ≡ (48 + year / 10 / 10 / 10) ∷ []
    = decimal_digit (year / 10 / 10 / 10) (omega arith) in
    let small : year / 10 / 10 / 10 % 10 ≡ year / 10 / 10 / 10 = omega arith in
    rw (
      decimal_step year (omega arith) (omega arith),
      decimal_step (year / 10) (omega arith) (omega arith),
      decimal_step (year / 10 / 10) (omega arith) (omega arith),
      last,
      small,
    ) refl

more_digits : (year ten_thousands : ℕ) → year < 2 ^ 64 → ten_thousands ≡ year / 10000 → (ten_thousands ≡ 0 → ⊥)
    → decimal year ≡ decimal ten_thousands ++ last_digits 4 year
more_digits year ten_thousands fits is some =
    let least : 10000 ≤ year = omega (arith, is, some) in
    let above : year / 10 / 10 / 10 / 10 ≡ ten_thousands = omega (arith, is) in
    rw (
      decimal_step year (omega arith) (omega arith),
      decimal_step (year / 10) (omega arith) (omega arith),
      decimal_step (year / 10 / 10) (omega arith) (omega arith),
      decimal_step (year / 10 / 10 / 10) (omega arith) (omega arith),
      above,
    ) (simp append_assoc)

-- ---- times

early : (day ten_thousands : ℕ) (date text : List ℕ) (seconds nanoseconds : ℕ) → day ≡ seconds / 86400
    → ten_thousands ≡ (date_of day).year / 10000 → ten_thousands ≡ 0 → date ≡ kept_text (date_of day)
    → text ≡ date ++ time_of_day_text seconds nanoseconds → text ≡ time_text seconds nanoseconds
unfolding time_text kept_text
early day ten_thousands date text seconds nanoseconds today above none kept is =
    let short : (date_of day).year / 10000 ≡ 0 = sym above ∙ none in
    rw (is, kept, ← today, four_digits (date_of day).year (omega (arith, year-least day)) short) refl

late : (day ten_thousands : ℕ) (date text : List ℕ) (seconds nanoseconds : ℕ) → seconds < 2 ^ 64
    → day ≡ seconds / 86400 → ten_thousands ≡ (date_of day).year / 10000 → (ten_thousands ≡ 0 → ⊥)
    → date ≡ kept_text (date_of day) → text ≡ date ++ time_of_day_text seconds nanoseconds
    → decimal ten_thousands ++ text ≡ time_text seconds nanoseconds
unfolding time_text kept_text
late day ten_thousands date text seconds nanoseconds fits today above some kept is =
    let small : (date_of day).year < 2 ^ 64 = omega (arith, year-most day) in
    rw (is, kept, ← today, more_digits (date_of day).year ten_thousands small above some) (simp append_assoc)

pub told : (day ten_thousands : ℕ) (date text : List ℕ) (seconds nanoseconds : ℕ) → seconds < 2 ^ 64
    → day ≡ seconds / 86400 → ten_thousands ≡ (date_of day).year / 10000 → date ≡ kept_text (date_of day)
    → text ≡ date ++ time_of_day_text seconds nanoseconds
    → year_front ten_thousands ++ text ≡ time_text seconds nanoseconds
told day zero date text seconds nanoseconds fits today above kept is =
    early day 0 date text seconds nanoseconds today above refl kept is
told day (suc n) date text seconds nanoseconds fits today above kept is =
    let some : suc n ≡ 0 → ⊥ = λ none. absurd (omega (arith, none)) in
    rw (ne_eqb (suc n) 0 some) (late day (suc n) date text seconds nanoseconds fits today above some kept is)
