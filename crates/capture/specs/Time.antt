-- The time of a packet: the number of nanoseconds since 1970-01-01 00:00:00 UTC, and its digits.
use Rattle.std.specs.Prelude.{◌≡◌, ℕ, ◌+◌, ◌-◌, ◌*◌, ◌/◌, ◌%◌, ◌^◌, ◌<◌, min, ℤ, pos, negsuc, nat_lt, if◌then◌else◌}
use Rattle.capture.specs.Types.{Precision, Time}

-- a time by its content: its nanoseconds, and the number of digits of a second in its file
pub record TimeValue : Type 0 where
  pub nanoseconds : ℕ
  pub digits : ℕ

abbrev pub time_value : ℕ → ℕ → TimeValue
time_value nanoseconds digits = record { nanoseconds = nanoseconds; digits = digits }

-- the nanoseconds of a time
abbrev pub nanos_of : Time → ℕ
nanos_of t = t.seconds * 1000000000 + t.nanoseconds

abbrev pub value_of : Time → TimeValue
value_of t = time_value (nanos_of t) t.digits

-- a time of this many nanoseconds, told to this many digits
pub record IsTime (t : Time) (nanoseconds digits : ℕ) : Type 0 where
  pub sum : t.seconds * 1000000000 + t.nanoseconds ≡ nanoseconds
  pub part : t.nanoseconds < 1000000000
  pub digits_are : t.digits ≡ digits

-- the units in a second of a resolution: a power of 10, or one of 2 where the highest bit is set
-- (draft-ietf-opsawg-pcapng section 4.2, if_tsresol)
unfoldable pub units : ℕ → ℕ
units resolution = if nat_lt resolution 128 then 10 ^ resolution else 2 ^ (resolution - 128)

-- the whole nanoseconds in this many units of a resolution
abbrev pub nanoseconds_of : ℕ → ℕ → ℕ
nanoseconds_of resolution ticks = ticks * 1000000000 / units resolution

-- the digits of a second that a resolution tells, of at most nine: a power of 2 has as many after the point as one of
-- 10
abbrev pub digits_of : ℕ → ℕ
digits_of resolution = min (resolution % 128) 9

-- A time that is moved by a signed number of seconds: 1970-01-01 where it would be earlier, and where its seconds would
-- be more than 64 bits hold, the most that they hold, with the same part of a second
-- (draft-ietf-opsawg-pcapng section 4.2, if_tsoffset).
unfoldable pub moved : ℤ → ℕ → ℕ
moved (pos seconds) nanoseconds =
    min (nanoseconds + seconds * 1000000000) (18446744073709551615 * 1000000000 + nanoseconds % 1000000000)
moved (negsuc seconds) nanoseconds = nanoseconds - (seconds + 1) * 1000000000

-- the nanoseconds in a fraction of a second
abbrev pub fraction_of : Precision → ℕ → ℕ
fraction_of Precision.Micro fraction = fraction * 1000
fraction_of Precision.Nano fraction = fraction

-- the number of digits of such a fraction
abbrev pub digits_in : Precision → ℕ
digits_in Precision.Micro = 6
digits_in Precision.Nano = 9
