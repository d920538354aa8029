-- What messages change of the receptions that a router keeps (RFC 3376 section 6.4, RFC 3810 section 7.4). Addresses
-- are equal where the test `eq` says so, and `bytes` has their octets; `most` receptions are kept.
use Rattle.std.specs.Prelude.{◌≡◌, ℕ, Bool, Option, None, Some, List, [], ◌∷◌, map}
use Rattle.std.specs.List.{find}
use Rattle.control_wire.specs.MldRecordTypeType.{RecordType}
use Rattle.group_wire.specs.declared.family.Family.{Family}
use Rattle.group_wire.specs.declared.record.Record.{Record}
use Rattle.group_wire.specs.Family.{width}
use Rattle.group_wire.specs.Record.{value_of, IsRecord}
use Rattle.group_wire.specs.Records.{AreRecords}
use Rattle.group_wire.specs.Sources.{octets_in, AreSources}
use Rattle.examples.specs.Reception.{is_about, lowered, received}
use Rattle.examples.specs.TimedList.{renewed}
use Rattle.examples.specs.declared.querier.reception.Meant.{Meant}
use Rattle.examples.specs.declared.querier.reception.Reception.{Reception}
use Rattle.examples.specs.declared.querier.reception.ReceptionKey.{ReceptionKey}
use Rattle.examples.specs.declared.querier.reports.Change.{Change}
use Rattle.examples.specs.declared.querier.variables.Times.{Times}

-- ---- one reception

-- a host wants it, which counts for a time, and for another, where the host is of version 1 of IGMP
abbrev pub with_reception : {A : Type 0} → (A → A → Bool) → ℕ → ReceptionKey A → ℕ → ℕ → List (Reception A)
    → List (Reception A)
with_reception eq most key time oldest rs =
    renewed most (is_about eq key) (received key time oldest (find (is_about eq key) rs)) rs

-- a host leaves what is meant, and so many queries ask whether others want it; none where nobody asks
abbrev pub with_lowered : {A : Type 0} → (A → A → Bool) → Meant A → ℕ → ℕ → List (Reception A) → List (Reception A)
with_lowered eq meant limit queries rs = map (lowered eq meant limit queries) rs

abbrev pub after_leave : {A : Type 0} → (A → A → Bool) → Meant A → ℕ → Option ℕ → List (Reception A)
    → List (Reception A)
after_leave eq meant limit None rs = rs
after_leave eq meant limit (Some queries) rs = with_lowered eq meant limit queries rs

-- ---- sources

-- what is said of a source of a group
abbrev pub with_heard : {A : Type 0} → (A → A → Bool) → ℕ → Times → Change → ReceptionKey A → List (Reception A)
    → List (Reception A)
with_heard eq most times Change.Wants key rs = with_reception eq most key times.membership 0 rs
with_heard eq most times (Change.Leaves asks) key rs =
    after_leave eq (Meant.One key) times.last_member_time asks rs

-- what is said of each of some sources in turn, by their octets
pub data HearsEach {A : Type 0} (eq : A → A → Bool) (bytes : A → List ℕ) (most : ℕ) (times : Times) (change : Change)
    (group : A) : List (List ℕ) → List (Reception A) → List (Reception A) → Type 0 where
  none : {rs : List (Reception A)} → HearsEach eq bytes most times change group [] rs rs
  next : {old new : List (Reception A)} {rest : List (List ℕ)} (source : A)
      → HearsEach eq bytes most times change group rest
      (with_heard eq most times change (record { group = group; source = Some source }) old) new
      → HearsEach eq bytes most times change group (bytes source ∷ rest) old new

abbrev pub HearsSources : {A : Type 0} → (A → A → Bool) → (A → List ℕ) → Family → ℕ → Times → Change → A → List ℕ
    → List (Reception A) → List (Reception A) → Type 0
HearsSources eq bytes f most times change group octets old new =
    (sources : List (List ℕ)) × AreSources (width f) octets sources
    × HearsEach eq bytes most times change group sources old new

-- ---- records

-- what a record says; where no sources are named it says nothing of sources
abbrev pub HearsType : {A : Type 0} → (A → A → Bool) → (A → List ℕ) → Family → ℕ → Times → Option ℕ → RecordType → A
    → List ℕ → List (Reception A) → List (Reception A) → Type 0
HearsType eq bytes f most times asks RecordType.ModeIsExclude group octets old new =
    new ≡ with_reception eq most (record { group = group; source = None }) times.membership 0 old
HearsType eq bytes f most times asks RecordType.ChangeToExclude group octets old new =
    new ≡ with_reception eq most (record { group = group; source = None }) times.membership 0 old
HearsType eq bytes f most times asks RecordType.ModeIsInclude group octets old new =
    HearsSources eq bytes f most times Change.Wants group octets old new
HearsType eq bytes f most times asks RecordType.AllowNewSources group octets old new =
    HearsSources eq bytes f most times Change.Wants group octets old new
HearsType eq bytes f most times asks RecordType.ChangeToInclude group octets old new =
    HearsSources eq bytes f most times Change.Wants group octets
    (after_leave eq (Meant.Group group) times.last_member_time asks old) new
HearsType eq bytes f most times asks RecordType.BlockOldSources group octets old new =
    HearsSources eq bytes f most times (Change.Leaves asks) group octets old new
HearsType eq bytes f most times asks (RecordType.Unknown number) group octets old new = new ≡ old

abbrev pub HearsRecord : {A : Type 0} → (A → A → Bool) → (A → List ℕ) → Family → ℕ → Times → Option ℕ → Record A
    → List (Reception A) → List (Reception A) → Type 0
HearsRecord eq bytes f most times asks r old new =
    HearsType eq bytes f most times asks r.record_type r.group (octets_in r.sources) old new

-- what some records say in turn, by their octets
pub data HearsRecords {A : Type 0} (eq : A → A → Bool) (bytes : A → List ℕ) (f : Family) (most : ℕ) (times : Times)
    (asks : Option ℕ) : List (List ℕ) → List (Reception A) → List (Reception A) → Type 0 where
  ends : {rs : List (Reception A)} → HearsRecords eq bytes f most times asks [] rs rs
  more : {old between new : List (Reception A)} {rest : List (List ℕ)} (front : List ℕ) (told : Record A)
      → IsRecord (width f) front (value_of bytes told) → HearsRecord eq bytes f most times asks told old between
      → HearsRecords eq bytes f most times asks rest between new
      → HearsRecords eq bytes f most times asks (front ∷ rest) old new

abbrev pub HearsReport : {A : Type 0} → (A → A → Bool) → (A → List ℕ) → Family → ℕ → Times → Option ℕ → ℕ → List ℕ
    → List (Reception A) → List (Reception A) → Type 0
HearsReport eq bytes f most times asks count octets old new =
    (records : List (List ℕ)) × AreRecords (width f) count octets records
    × HearsRecords eq bytes f most times asks records old new
