-- The sums of subjects. Subjects that are equal have the same sum.
use Rattle.std.specs.Prelude.{◌+◌, ◌*◌, ◌%◌, ◌^◌, ℕ}
use Rattle.std.specs.List.{fold}
use Rattle.packet_stats.specs.Subject.{SubjectValue, place_of, subject_of}
use Rattle.packet_stats.specs.Types.{Row}

-- one octet more mixed into a sum
unfoldable pub mix : ℕ → ℕ → ℕ
mix sum octet = (sum * 2654435761 % 2 ^ 32 + octet) % 2 ^ 32

-- that of the octets by which subjects of one kind are ordered
abbrev pub sum_of : SubjectValue → ℕ
sum_of subject = fold mix 0 (place_of subject)

-- that of the subject of a row
abbrev pub sum_in : Row → ℕ
sum_in r = sum_of (subject_of r.subject)
