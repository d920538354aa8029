-- The preference of a router or a route, two bits (RFC 4191 section 2.1).
use Rattle.std.specs.Prelude.{ℕ, ◌+◌, ◌*◌, ◌/◌, ◌%◌, ◌==◌, if◌then◌else◌, List, codes}
use Rattle.neighbor_wire.specs.declared.preference.Preference.{Preference}

abbrev pub preference_number : Preference → ℕ
preference_number Preference.Medium = 0
preference_number Preference.High = 1
preference_number Preference.Reserved = 2
preference_number Preference.Low = 3

abbrev pub preference_of : ℕ → Preference
preference_of n =
    if n == 0 then Preference.Medium else if n == 1 then Preference.High else if n == 3 then Preference.Low
    else Preference.Reserved

-- The preference in a byte whose other six bits say something else: of a router advertisement (RFC 4191 section 2.2)
-- and of a route (RFC 4191 section 2.3)
--
--  0 1 2 3 4 5 6 7
-- +-----+---+-----+
-- |     |Prf|     |
-- +-----+---+-----+
abbrev pub preference_in : ℕ → Preference
preference_in byte = preference_of (byte / 8 % 4)

-- the byte with another preference
abbrev pub with_preference : ℕ → Preference → ℕ
with_preference byte preference = byte / 32 * 32 + preference_number preference * 8 + byte % 8

-- the name of a preference
abbrev pub preference_text : Preference → List ℕ
preference_text Preference.High = codes "high"
preference_text Preference.Medium = codes "medium"
preference_text Preference.Low = codes "low"
preference_text Preference.Reserved = codes "reserved"
