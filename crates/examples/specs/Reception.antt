-- What some host of a link wants, as a router keeps it (RFC 3376 section 6.2). Addresses are equal where the test `eq`
-- says so.
use Rattle.std.specs.Prelude.{ℕ, ◌-◌, ◌==◌, ◌&&◌, nat_lt, max, Bool, true, false, if◌then◌else◌, Option, None, Some}
use Rattle.examples.specs.declared.querier.reception.Meant.{Meant}
use Rattle.examples.specs.declared.querier.reception.Reception.{Reception}
use Rattle.examples.specs.declared.querier.reception.ReceptionKey.{ReceptionKey}

-- ---- which receptions

abbrev pub key_of : {A : Type 0} → Reception A → ReceptionKey A
key_of r = record { group = r.group; source = r.source }

abbrev pub same_source : {A : Type 0} → (A → A → Bool) → Option A → Option A → Bool
same_source eq (Some a) (Some b) = eq a b
same_source eq None None = true
same_source eq a b = false

abbrev pub is_about : {A : Type 0} → (A → A → Bool) → ReceptionKey A → Reception A → Bool
is_about eq key r = eq r.group key.group && same_source eq r.source key.source

-- all of a group, or one
abbrev pub is_meant : {A : Type 0} → (A → A → Bool) → Meant A → Reception A → Bool
is_meant eq (Meant.Group group) r = eq r.group group
is_meant eq (Meant.One key) r = is_about eq key r

-- ---- times, in milliseconds

-- what is left of it when some time has passed
abbrev pub reception_after : {A : Type 0} → ℕ → Reception A → Option (Reception A)
reception_after passed r =
    if nat_lt passed r.left
    then Some (record r { left = r.left - passed; oldest = r.oldest - passed; next = r.next - passed })
    else None

-- How long a host of version 1 of IGMP still counts, by what was known of it.
abbrev pub oldest_of : {A : Type 0} → Option (Reception A) → ℕ
oldest_of None = 0
oldest_of (Some r) = r.oldest

-- It is told by a host: it counts for a time, and nobody has to ask about it.
abbrev pub received : {A : Type 0} → ReceptionKey A → ℕ → ℕ → Option (Reception A) → Reception A
received key time oldest before = record {
  group = key.group;
  source = key.source;
  left = time;
  oldest = max (oldest_of before) oldest;
  queries = 0;
  next = 0;
}

-- A host leaves what is meant: it counts for no longer than the limit, and so many queries ask about it, the first at
-- once. One that counts no longer anyway is asked about already, or about to end; and a host of version 1 would not
-- have told that it is still there (RFC 3376 sections 6.6.3 and 7.3.2).
abbrev pub lowered : {A : Type 0} → (A → A → Bool) → Meant A → ℕ → ℕ → Reception A → Reception A
lowered eq meant limit queries r =
    if is_meant eq meant r && nat_lt limit r.left && (r.oldest == 0)
    then record r { left = limit; queries = queries; next = 0 }
    else r

-- ---- queries about it

-- one is to be sent now
abbrev pub is_due : {A : Type 0} → Reception A → Bool
is_due r = (r.next == 0) && nat_lt 0 r.queries

-- one was sent, and the next may be in some time
abbrev pub asked : {A : Type 0} → ℕ → Reception A → Reception A
asked interval r = record r { queries = r.queries - 1; next = interval }
