-- A group that a host reports, and the sources of it that queries ask about (RFC 3376 section 5, RFC 3810 section 6).
-- Addresses are equal where the test `eq` says so. Times are in milliseconds.
use Rattle.std.specs.Prelude.{ℕ, ◌+◌, ◌-◌, ◌%◌, ◌==◌, ◌&&◌, ◌||◌, nat_lt, min, Bool, true, false, if◌then◌else◌}
use Rattle.std.specs.Prelude.{Option, None, Some, option_map}
use Rattle.examples.specs.declared.reporter.reported.AskedKey.{AskedKey}
use Rattle.examples.specs.declared.reporter.reported.AskedSource.{AskedSource}
use Rattle.examples.specs.declared.reporter.reported.Reported.{Reported}

-- a time up to the most, by chance
abbrev pub by_chance : ℕ → ℕ → ℕ
by_chance chance most = chance % (most + 1)

-- ---- groups

abbrev pub is_group : {A : Type 0} → (A → A → Bool) → A → Reported A → Bool
is_group eq group r = eq r.group group

-- a change is reported twice, the first time at once (RFC 3376 sections 5.1 and 8.1, RFC 3810 sections 6.1 and 9.1)
abbrev pub changed : {A : Type 0} → A → Bool → Reported A
changed group is_member = record { group = group; is_member = is_member; changes = 2; next = 0; answer = None }

abbrev pub joined : {A : Type 0} → A → Option (Reported A) → Reported A
joined group None = changed group true
joined group (Some r) = if r.is_member then r else changed group true

abbrev pub left : {A : Type 0} → Reported A → Reported A
left r = if r.is_member then changed r.group false else r

-- what is left of it when some time has passed; a group that the host has left and reported is dropped
abbrev pub time_left : ℕ → Option ℕ → Option ℕ
time_left passed time = option_map (λ t. t - passed) time

abbrev pub reported_after : {A : Type 0} → ℕ → Reported A → Option (Reported A)
reported_after passed r =
    if r.is_member || nat_lt 0 r.changes
    then Some (record r { next = r.next - passed; answer = time_left passed r.answer })
    else None

-- ---- queries

-- the time until a query is answered: of several the earliest
abbrev pub earliest : Option ℕ → ℕ → ℕ
earliest None delay = delay
earliest (Some time) delay = min time delay

-- a query asks about all groups, or about one
abbrev pub is_meant : {A : Type 0} → (A → A → Bool) → Option A → Reported A → Bool
is_meant eq None r = r.is_member
is_meant eq (Some group) r = r.is_member && eq r.group group

abbrev pub answered : {A : Type 0} → (A → A → Bool) → Option A → ℕ → Reported A → Reported A
answered eq meant delay r =
    if is_meant eq meant r then record r { answer = Some (earliest r.answer delay) } else r

-- another host reports it: routers need not hear it twice (RFC 2236 section 3, RFC 2710 section 4)
abbrev pub silenced : {A : Type 0} → Reported A → Reported A
silenced r = record r { answer = None }

-- ---- reports

abbrev pub is_over : Option ℕ → Bool
is_over None = false
is_over (Some time) = time == 0

abbrev pub is_change_due : {A : Type 0} → Reported A → Bool
is_change_due r = nat_lt 0 r.changes && (r.next == 0)

abbrev pub is_due : {A : Type 0} → Reported A → Bool
is_due r = is_change_due r || is_over r.answer

-- it is reported, a change before an answer, and a change again in some time
abbrev pub after_report : {A : Type 0} → ℕ → Reported A → Reported A
after_report again r =
    if is_change_due r then record r { changes = r.changes - 1; next = again } else record r { answer = None }

-- ---- the sources that queries ask about

abbrev pub source_key : {A : Type 0} → A → A → AskedKey A
source_key group source = record { group = group; source = Some source }

-- all sources of a group
abbrev pub group_key : {A : Type 0} → A → AskedKey A
group_key group = record { group = group; source = None }

abbrev pub names : {A : Type 0} → (A → A → Bool) → Option A → A → Bool
names eq None source = true
names eq (Some named) source = eq source named

abbrev pub is_asked : {A : Type 0} → (A → A → Bool) → AskedKey A → AskedSource A → Bool
is_asked eq key asked = eq asked.group key.group && names eq key.source asked.source

-- they are kept until they are answered
abbrev pub asked_after : {A : Type 0} → ℕ → AskedSource A → Option (AskedSource A)
asked_after passed asked = Some asked
