-- A host that reports which multicast groups it is a member of (RFC 3376 section 5, RFC 3810 section 6). Addresses are
-- equal where the test `eq` says so, and `bytes` has their octets. Times are in milliseconds.
use Rattle.std.specs.Prelude.{◌≡◌, ℕ, ◌+◌, ◌-◌, ◌*◌, ◌/◌, ◌==◌, ◌<◌, ◌≤◌, Bool, true, false}
use Rattle.std.specs.Prelude.{if◌then◌else◌, Option, None, Some, List, [], ◌∷◌, length, map, option_map, replicate}
use Rattle.std.specs.List.{filter, filter_map, find}
use Rattle.control_wire.specs.Duration.{micros_of, of_micros}
use Rattle.control_wire.specs.DurationType.{Duration}
use Rattle.group_wire.specs.declared.family.Family.{Family}
use Rattle.group_wire.specs.declared.membership.Message.{Message}
use Rattle.group_wire.specs.declared.query.Query.{Query}
use Rattle.group_wire.specs.declared.records.Records.{Records}
use Rattle.group_wire.specs.Family.{width}
use Rattle.group_wire.specs.Sources.{octets_in, AreSources}
use Rattle.group_wire.specs.Membership.{query_value}
use Rattle.group_wire.specs.Times.{older_millis, query_millis, query_version}
use Rattle.examples.specs.Membership.{older_querier_millis}
use Rattle.examples.specs.Reported.{after_report, answered, by_chance, group_key, is_asked, is_change_due, is_due}
use Rattle.examples.specs.Reported.{is_group, joined, left, reported_after, silenced, source_key}
use Rattle.examples.specs.ReportMessages.{Told}
use Rattle.examples.specs.TimedList.{has, renewed, without}
use Rattle.examples.specs.declared.membership.OlderQueriers.{OlderQueriers}
use Rattle.examples.specs.declared.reporter.Reporter.{Reporter}
use Rattle.examples.specs.declared.reporter.TheConstants.{MOST_GROUPS, MOST_SOURCES}
use Rattle.examples.specs.declared.reporter.reported.AskedSource.{AskedSource}
use Rattle.examples.specs.declared.reporter.reported.Reported.{Reported}

-- ---- the state

-- for how long it speaks older versions, and for how long after a query of these; its groups; and the sources of these
-- that queries ask about
pub record State (A : Type 0) : Type 0 where
  pub older : OlderQueriers
  pub older_time : Duration
  pub groups : List (Reported A)
  pub asked : List (AskedSource A)

abbrev pub state_of : {A : Type 0} → Reporter A → State A
state_of r = record {
  older = r.older;
  older_time = r.older_time;
  groups = r.groups.items;
  asked = r.asked.items;
}

-- at first it speaks the newest version, and an older one for 260 s after a query (RFC 3376 section 8.12)
abbrev pub initial : {A : Type 0} → State A
initial = record {
  older = record { version1 = of_micros 0; version2 = of_micros 0 };
  older_time = of_micros 260000000;
  groups = [];
  asked = [];
}

-- when some time has passed
abbrev pub time_after : ℕ → Duration → Duration
time_after passed time = of_micros (micros_of time - 1000 * passed)

abbrev pub later : {A : Type 0} → ℕ → State A → State A
later passed s = record s {
  older = record {
    version1 = time_after passed s.older.version1;
    version2 = time_after passed s.older.version2;
  };
  groups = filter_map (reported_after passed) s.groups;
}

-- ---- groups

abbrev pub found : {A : Type 0} → (A → A → Bool) → A → List (Reported A) → Option (Reported A)
found eq group groups = find (is_group eq group) groups

abbrev pub is_member_of : {A : Type 0} → Option (Reported A) → Bool
is_member_of None = false
is_member_of (Some r) = r.is_member

abbrev pub with_group : {A : Type 0} → (A → A → Bool) → A → Reported A → List (Reported A) → List (Reported A)
with_group eq group r groups = renewed MOST_GROUPS (is_group eq group) r groups

abbrev pub with_joined : {A : Type 0} → (A → A → Bool) → A → State A → State A
with_joined eq group s =
    record s { groups = with_group eq group (joined group (found eq group s.groups)) s.groups }

-- what queries ask about it is not answered any more
abbrev pub without_sources : {A : Type 0} → (A → A → Bool) → A → List (AskedSource A) → List (AskedSource A)
without_sources eq group asked = without (is_asked eq (group_key group)) asked

abbrev pub unanswered : {A : Type 0} → (A → A → Bool) → A → Reported A → State A → State A
unanswered eq group r s =
    record s { groups = with_group eq group r s.groups; asked = without_sources eq group s.asked }

abbrev pub with_left_of : {A : Type 0} → (A → A → Bool) → A → State A → Option (Reported A) → State A
with_left_of eq group s None = s
with_left_of eq group s (Some r) = unanswered eq group (left r) s

abbrev pub with_left : {A : Type 0} → (A → A → Bool) → A → State A → State A
with_left eq group s = with_left_of eq group s (found eq group s.groups)

-- where another host reports it
abbrev pub with_silenced_of : {A : Type 0} → (A → A → Bool) → A → State A → Option (Reported A) → State A
with_silenced_of eq group s None = s
with_silenced_of eq group s (Some r) = unanswered eq group (silenced r) s

abbrev pub with_silenced : {A : Type 0} → (A → A → Bool) → A → State A → State A
with_silenced eq group s = with_silenced_of eq group s (found eq group s.groups)

-- ---- queries

-- sources of a group are kept in turn, by their octets, until they are answered
abbrev pub with_source : {A : Type 0} → (A → A → Bool) → A → A → List (AskedSource A) → List (AskedSource A)
with_source eq group source asked =
    renewed MOST_SOURCES (is_asked eq (source_key group source)) (record { group = group; source = source }) asked

pub data KeepsEach {A : Type 0} (eq : A → A → Bool) (bytes : A → List ℕ) (group : A)
    : List (List ℕ) → List (AskedSource A) → List (AskedSource A) → Type 0 where
  none : {asked : List (AskedSource A)} → KeepsEach eq bytes group [] asked asked
  next : {old new : List (AskedSource A)} {rest : List (List ℕ)} (source : A)
      → KeepsEach eq bytes group rest (with_source eq group source old) new
      → KeepsEach eq bytes group (bytes source ∷ rest) old new

abbrev pub KeepsSources : {A : Type 0} → (A → A → Bool) → (A → List ℕ) → Family → A → List ℕ → List (AskedSource A)
    → List (AskedSource A) → Type 0
KeepsSources eq bytes f group octets old new =
    (sources : List (List ℕ)) × AreSources (width f) octets sources × KeepsEach eq bytes group sources old new

-- All of them are kept, or where there is no room none of the group, which is then reported whole.
pub record AddsSources {A : Type 0} (eq : A → A → Bool) (bytes : A → List ℕ) (f : Family) (group : A) (octets : List ℕ)
    (old new : List (AskedSource A)) : Type 0 where
  pub few : length old + length octets / width f ≤ MOST_SOURCES → KeepsSources eq bytes f group octets old new
  pub many : MOST_SOURCES < length old + length octets / width f → new ≡ without_sources eq group old

-- Sources are added where no query of the group waits for an answer, or one of sources does. Where one of the whole
-- group does, its answer has them (RFC 3376 section 5.2, RFC 3810 section 6.2).
abbrev pub is_whole_due : {A : Type 0} → (A → A → Bool) → A → List (AskedSource A) → Option ℕ → Bool
is_whole_due eq group asked None = false
is_whole_due eq group asked (Some time) = if has (is_asked eq (group_key group)) asked then false else true

abbrev pub adds : {A : Type 0} → (A → A → Bool) → A → List (AskedSource A) → Option (Reported A) → Bool
adds eq group asked None = false
adds eq group asked (Some r) =
    if r.is_member then (if is_whole_due eq group asked r.answer then false else true) else false

-- A query of a group is answered by its whole state, and one of sources by these.
pub record AsksSources {A : Type 0} (eq : A → A → Bool) (bytes : A → List ℕ) (f : Family) (group : A) (octets : List ℕ)
    (entry : Option (Reported A)) (old new : List (AskedSource A)) : Type 0 where
  pub whole : length octets / width f ≡ 0 → new ≡ without_sources eq group old
  pub added : 0 < length octets / width f → adds eq group old entry ≡ true
      → AddsSources eq bytes f group octets old new
  pub passed : 0 < length octets / width f → adds eq group old entry ≡ false → new ≡ old

-- A query is answered after the delay, or earlier where another one is. The unspecified address asks about all groups,
-- whose whole states are reported.
pub record HearsQuery {A : Type 0} (eq : A → A → Bool) (bytes : A → List ℕ) (f : Family) (group : A) (octets : List ℕ)
    (delay : ℕ) (old new : State A) : Type 0 where
  pub all : bytes group ≡ replicate (width f) 0
      → new ≡ record old { groups = map (answered eq None delay) old.groups; asked = [] }
  pub one : (bytes group ≡ replicate (width f) 0 → ⊥)
      → new ≡ record old { groups = map (answered eq (Some group) delay) old.groups; asked = new.asked }
  pub sources : (bytes group ≡ replicate (width f) 0 → ⊥)
      → AsksSources eq bytes f group octets (found eq group old.groups) old.asked new.asked

-- A query of an older version: for a time the host speaks that version.
abbrev pub after_older : {A : Type 0} → ℕ → State A → State A
after_older version s =
    if version == 1
    then record s { older = record { version1 = s.older_time; version2 = s.older.version2 } }
    else record s { older = record { version1 = s.older.version1; version2 = s.older_time } }

-- One of the newest version says for how long (RFC 3376 section 8.12, RFC 3810 section 9.12).
abbrev pub with_time : {A : Type 0} → Option Duration → State A → State A
with_time None s = s
with_time (Some time) s = record s { older_time = time }

abbrev pub after_newest : {A : Type 0} → (A → List ℕ) → Family → Query A → State A → State A
after_newest bytes f q s =
    with_time (option_map (λ millis. of_micros (1000 * millis)) (older_querier_millis f (query_value bytes q))) s

abbrev pub Hears : {A : Type 0} → (A → A → Bool) → (A → List ℕ) → Family → ℕ → Message A (Query A) (Records A)
    → State A → State A → Type 0
Hears eq bytes f chance (Message.OlderQuery code group) old new =
    HearsQuery eq bytes f group [] (by_chance chance (older_millis f code)) (after_older (query_version f code) old) new
Hears eq bytes f chance (Message.Query q) old new =
    HearsQuery eq bytes f q.group (octets_in q.sources) (by_chance chance (query_millis f q.max_resp_code))
    (after_newest bytes f q old) new
Hears eq bytes f chance (Message.OldestReport group) old new = new ≡ with_silenced eq group old
Hears eq bytes f chance (Message.OlderReport group) old new = new ≡ with_silenced eq group old
Hears eq bytes f chance message old new = new ≡ old

-- ---- reports

-- what is reported of a group: a change, or the answer to queries, of sources where they asked about some
abbrev pub told_of : {A : Type 0} → (A → A → Bool) → List (AskedSource A) → Reported A → Told A
told_of eq asked r = record {
  group = r.group;
  is_member = r.is_member;
  is_change = is_change_due r;
  asked = if is_change_due r then [] else filter (is_asked eq (group_key r.group)) asked;
}

-- that counts as reported
abbrev pub with_told_of : {A : Type 0} → (A → A → Bool) → ℕ → State A → Option (Reported A) → State A
with_told_of eq again s None = s
with_told_of eq again s (Some r) = record s {
  groups = with_group eq r.group (after_report again r) s.groups;
  asked = if is_change_due r then s.asked else without_sources eq r.group s.asked;
}

abbrev pub with_told : {A : Type 0} → (A → A → Bool) → ℕ → State A → State A
with_told eq again s = with_told_of eq again s (find is_due s.groups)
