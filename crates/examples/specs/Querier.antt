-- A router that asks the hosts of a link which groups they want (RFC 2236 section 7, RFC 3376 section 6, RFC 2710
-- section 5, RFC 3810 section 7). Times are in milliseconds.
use Rattle.std.specs.Prelude.{◌≡◌, ℕ, ◌-◌, ◌/◌, ◌==◌, ◌<◌, nat_lt, Bool, true, false, if◌then◌else◌, Option, None, Some}
use Rattle.std.specs.Prelude.{List, [], length, option_map}
use Rattle.std.specs.List.{filter_map, find}
use Rattle.group_wire.specs.declared.family.Family.{Family}
use Rattle.group_wire.specs.declared.membership.Message.{Message}
use Rattle.group_wire.specs.declared.query.Query.{Query}
use Rattle.group_wire.specs.declared.records.Records.{Records}
use Rattle.group_wire.specs.Family.{width}
use Rattle.group_wire.specs.Records.{count_in, octets_in as octets_of_records}
use Rattle.group_wire.specs.Sources.{octets_in}
use Rattle.examples.specs.QuerierReports.{after_leave, with_reception, HearsReport, HearsSources}
use Rattle.examples.specs.QuerierVariables.{interval_after}
use Rattle.examples.specs.Reception.{asked, is_about, is_due, key_of, reception_after}
use Rattle.examples.specs.TimedList.{renewed}
use Rattle.examples.specs.declared.querier.Asked.{Asked}
use Rattle.examples.specs.declared.querier.Querier.{Querier}
use Rattle.examples.specs.declared.querier.reception.Meant.{Meant}
use Rattle.examples.specs.declared.querier.reception.Reception.{Reception}
use Rattle.examples.specs.declared.querier.reports.Change.{Change}
use Rattle.examples.specs.declared.querier.variables.Times.{Times}

-- ---- the state

-- its address and its times; the time for which another router is the querier; how many general queries of those at
-- start are left, and the time until the next; and what hosts want
pub record State (A : Type 0) : Type 0 where
  pub own : A
  pub times : Times
  pub other : ℕ
  pub startup : ℕ
  pub next : ℕ
  pub receptions : List (Reception A)

abbrev pub state_of : {A : Type 0} {most : ℕ} → Querier A most → State A
state_of q = record {
  own = q.own;
  times = q.times;
  other = q.other;
  startup = q.startup;
  next = q.next;
  receptions = q.receptions.items;
}

abbrev pub initial : {A : Type 0} → A → Times → State A
initial own times = record {
  own = own;
  times = times;
  other = 0;
  startup = times.robustness;
  next = 0;
  receptions = [];
}

-- when some time has passed
abbrev pub later : {A : Type 0} → ℕ → State A → State A
later passed s = record s {
  other = s.other - passed;
  next = s.next - passed;
  receptions = filter_map (reception_after passed) s.receptions;
}

-- ---- messages

-- how often the querier asks where a host leaves; another router does not
abbrev pub asks_in : {A : Type 0} → State A → Option ℕ
asks_in s = if s.other == 0 then Some s.times.robustness else None

-- another router is the querier: this one does not ask, and where it is alone again begins with one query
abbrev pub yields : {A : Type 0} → State A → State A
yields s = record s { other = s.times.other_querier; startup = 0; next = 0 }

-- What a query asks about counts for no longer than the last member query time, but where the flag S is set: a group,
-- or sources of it (RFC 3376 section 6.6.1).
pub record HearsAsked {A : Type 0} (eq : A → A → Bool) (bytes : A → List ℕ) (f : Family) (most : ℕ) (times : Times)
    (flag : Bool) (group : A) (octets : List ℕ) (old new : List (Reception A)) : Type 0 where
  pub suppressed : flag ≡ true → new ≡ old
  pub group_is : flag ≡ false → length octets / width f ≡ 0
      → new ≡ after_leave eq (Meant.One (record { group = group; source = None })) times.last_member_time (Some 0) old
  pub sources_are : flag ≡ false → 0 < length octets / width f
      → HearsSources eq bytes f most times (Change.Leaves (Some 0)) group octets old new

-- The router with the lowest address is the querier (RFC 3376 section 6.6.2).
pub record HearsQuery {A : Type 0} (eq : A → A → Bool) (bytes : A → List ℕ) (is_below : A → A → Bool) (f : Family)
    (most : ℕ) (source : A) (flag : Bool) (group : A) (octets : List ℕ) (old new : State A) : Type 0 where
  pub higher : is_below source old.own ≡ false → new ≡ old
  pub lower : is_below source old.own ≡ true → new ≡ record (yields old) { receptions = new.receptions }
  pub asked : is_below source old.own ≡ true
      → HearsAsked eq bytes f most old.times flag group octets old.receptions new.receptions

-- a host wants a group from all sources: it counts for a time, and for another where the host is of version 1 of IGMP
abbrev pub with_group : {A : Type 0} → (A → A → Bool) → ℕ → A → ℕ → State A → State A
with_group eq most group oldest s = record s {
  receptions = with_reception eq most (record { group = group; source = None }) s.times.membership oldest s.receptions;
}

abbrev pub Hears : {A : Type 0} → (A → A → Bool) → (A → List ℕ) → (A → A → Bool) → Family → ℕ → A
    → Message A (Query A) (Records A) → State A → State A → Type 0
Hears eq bytes is_below f most source (Message.OlderQuery code group) old new =
    HearsQuery eq bytes is_below f most source false group [] old new
Hears eq bytes is_below f most source (Message.Query q) old new =
    HearsQuery eq bytes is_below f most source q.s_flag q.group (octets_in q.sources) old new
Hears eq bytes is_below f most source (Message.OldestReport group) old new =
    new ≡ with_group eq most group old.times.membership old
Hears eq bytes is_below f most source (Message.OlderReport group) old new = new ≡ with_group eq most group 0 old
Hears eq bytes is_below f most source (Message.Leave group) old new =
    new ≡ record old {
      receptions = after_leave eq (Meant.Group group) old.times.last_member_time (asks_in old) old.receptions;
    }
Hears eq bytes is_below f most source (Message.Report records) old new =
    (new ≡ record old { receptions = new.receptions })
    × HearsReport eq bytes f most old.times (asks_in old) (count_in records) (octets_of_records records)
    old.receptions new.receptions

-- ---- queries

-- what is asked now: all groups, or the first reception of which a query is due; a router that is not the querier asks
-- nothing
abbrev pub asked_in : {A : Type 0} → State A → Option (Asked A)
asked_in s =
    if nat_lt 0 s.other then None
    else if s.next == 0 then Some Asked.All
    else option_map (λ r. Asked.Reception (key_of r)) (find is_due s.receptions)

-- that counts as asked
abbrev pub with_asked : {A : Type 0} → (A → A → Bool) → ℕ → ℕ → List (Reception A) → Option (Reception A)
    → List (Reception A)
with_asked eq most interval rs None = rs
with_asked eq most interval rs (Some r) = renewed most (is_about eq (key_of r)) (asked interval r) rs

abbrev pub with_query : {A : Type 0} → (A → A → Bool) → ℕ → State A → State A
with_query eq most s =
    if nat_lt 0 s.other then s
    else if s.next == 0
    then record s { next = interval_after s.times s.startup; startup = s.startup - 1 }
    else record s {
      receptions = with_asked eq most s.times.last_member_interval s.receptions (find is_due s.receptions);
    }
